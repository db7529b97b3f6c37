use Rattle.std.proofs.Common.{ℕ, List, length}
use Rattle.up_headers.specs.Concat.{NameUploads}
use Rattle.up_headers.proofs.ConcatLemmas.{Continues}
use Rattle.up_headers.proofs.concat.parts_of.Given as goal

abbrev pub invariant-loop-url : goal.invariant-loop-url
invariant-loop-url l = (urls : List (List ℕ)) × Continues l.list urls l.rest × NameUploads urls l.parts.items

abbrev pub decreases-loop-url : goal.decreases-loop-url
decreases-loop-url l = length l.rest
