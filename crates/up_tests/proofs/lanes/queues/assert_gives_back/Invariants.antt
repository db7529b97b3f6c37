use Rattle.std.proofs.Common.{◌≡◌, ◌≤◌, length, take}
use Rattle.up_tests.proofs.lanes.queues.assert_gives_back.Given as goal

abbrev pub invariant-loop-taken : goal.invariant-loop-taken
invariant-loop-taken g l = record {
  queue : l.take_end.queue ≡ l.put_end.queue;
  place : l.place ≤ length l.items.items;
  before : l.put_end.put ≡ take l.place l.items.items;
}
