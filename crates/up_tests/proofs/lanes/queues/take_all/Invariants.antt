use Rattle.std.proofs.Common.{◌≡◌}
use Rattle.up_tests.proofs.lanes.queues.take_all.Given as goal

abbrev pub invariant-loop : goal.invariant-loop
invariant-loop g l = l.end.queue ≡ l.fn.end.queue
