use Rattle.std.proofs.Common.{◌≡◌, take}
use Rattle.up_machine.proofs.copies.copy_pairs.Given as goal

abbrev pub invariant-loop-pair : goal.invariant-loop-pair
invariant-loop-pair l = l.made ≡ take l.pair-index l.pairs
