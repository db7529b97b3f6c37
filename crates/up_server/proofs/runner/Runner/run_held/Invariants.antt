use Rattle.std.proofs.Common.{◌≡◌}
use Rattle.up_server.proofs.runner.Runner.run_held.Given as goal

abbrev pub invariant-loop : goal.invariant-loop
invariant-loop g l = record {
  sound : g.H.PostHook.is_sound l.end.hook;
  lane : l.end.lane ≡ l.fn.lane.lane;
  queue : l.end.take_end.queue ≡ l.fn.lane.queue;
}
