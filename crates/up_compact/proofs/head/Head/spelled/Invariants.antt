use Rattle.std.proofs.Common.{◌≡◌, ◌∷◌, map, take}
use Rattle.up_compact.specs.Heads.{entry_with_number}
use Rattle.up_compact.proofs.head.Head.spelled.Given as goal

abbrev pub invariant-loop-count : goal.invariant-loop-count
invariant-loop-count l = l.batch.items ≡ entry_with_number l.self.generation ∷ entry_with_number l.self.entries ∷ map entry_with_number (take l.count-index l.self.left_out)
