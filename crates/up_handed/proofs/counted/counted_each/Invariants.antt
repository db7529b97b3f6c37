use Rattle.std.proofs.Common.{◌≡◌, map, take}
use Rattle.up_handed.specs.Openings.{counted_of}
use Rattle.up_handed.proofs.counted.counted_each.Given as goal

abbrev pub invariant-loop-opened : goal.invariant-loop-opened
invariant-loop-opened g l = l.counted.items ≡ map counted_of (take l.opened-index l.counts)
