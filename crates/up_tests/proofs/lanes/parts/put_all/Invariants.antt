use Rattle.std.proofs.Common.{◌≡◌, ◌≤◌, length, take}
use Rattle.up_tests.proofs.lanes.parts.put_all.Given as goal

abbrev pub invariant-loop : goal.invariant-loop
invariant-loop g l = record {
  queue : l.end.queue ≡ l.fn.end.queue;
  place : l.place ≤ length l.items;
  before : l.end.put ≡ take l.place l.items;
}
