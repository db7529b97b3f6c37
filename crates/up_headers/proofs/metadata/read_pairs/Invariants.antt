use Rattle.std.proofs.Common.{◌≡◌, List, ℕ, Bor, length}
use Rattle.std.specs.Ordering.{nat_cmp}
use Rattle.std.specs.Cmp.Lexicographic.{slice_cmp}
use Rattle.std.specs.BTreeSet.{contains}
use Rattle.up_headers.specs.Metadata.{has_key}
use Rattle.up_headers.specs.Reading.{parts_of, parts_reading, reading}
use Rattle.up_headers.proofs.metadata.read_pairs.Given as goal

abbrev pub invariant-parts : goal.invariant-parts
invariant-parts l = record {
  read : parts_reading l.pairs.items (parts_of l.rest) ≡ reading l.text;
  known : (key : Bor (List ℕ)) → contains (λ x y. slice_cmp nat_cmp x.now y.now) l.keys key ≡ has_key key.now l.pairs.items;
}

abbrev pub decreases-parts : goal.decreases-parts
decreases-parts l = length (parts_of l.rest)
