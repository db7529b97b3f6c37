use Rattle.std.proofs.Common.{◌≡◌}
use Rattle.up_test_data.proofs.calls.boards.stepped.Given as goal

abbrev pub invariant-loop : goal.invariant-loop
invariant-loop g l = record {
  lane : l.lane.lane ≡ l.fn.lane.lane;
  queue : l.lane.queue ≡ l.fn.lane.queue;
}
