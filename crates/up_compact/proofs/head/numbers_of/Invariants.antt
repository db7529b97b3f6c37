use Rattle.std.proofs.Common.{◌≡◌, take}
use Rattle.up_compact.specs.Heads.{ids_of}
use Rattle.up_compact.proofs.head.numbers_of.Given as goal

abbrev pub invariant-loop-entry : goal.invariant-loop-entry
invariant-loop-entry l = l.numbers.items ≡ ids_of (take l.entry-index l.entries)
