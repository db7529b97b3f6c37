use Rattle.std.proofs.Common.{◌≡◌, take}
use Rattle.up_tests.proofs.lanes.stepping.finds_nothing_until_more_is_put.Given as goal

abbrev pub invariant-loop-place : goal.invariant-loop-place
invariant-loop-place g l = l.put_end.put ≡ take l.place l.items.items
