use Rattle.std.proofs.Common.{◌≡◌, take}
use Rattle.up_tests.proofs.lanes.parts.fill.Given as goal

abbrev pub invariant-loop-next : goal.invariant-loop-next
invariant-loop-next g l = record {
  queue : l.end.queue ≡ l.fn.end.queue;
  before : l.end.put ≡ take l.next l.items;
}
