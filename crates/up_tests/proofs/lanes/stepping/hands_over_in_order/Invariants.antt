use Rattle.std.proofs.Common.{◌≡◌, ◌≤◌, length, take}
use Rattle.up_tests.proofs.lanes.stepping.hands_over_in_order.Given as goal

abbrev pub invariant-loop : goal.invariant-loop
invariant-loop g l = record {
  place : l.place ≤ length l.items.items;
  before : l.put_end.put ≡ take l.place l.items.items;
}
