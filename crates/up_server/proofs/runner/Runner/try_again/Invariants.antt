use Rattle.std.proofs.Common.{◌≡◌}
use Rattle.up_server.proofs.runner.Runner.try_again.Given as goal

abbrev pub invariant-loop : goal.invariant-loop
invariant-loop g l = record {
  lane : l.lane.lane ≡ l.fn.lane.lane;
  queue : l.lane.queue ≡ l.fn.lane.queue;
}
