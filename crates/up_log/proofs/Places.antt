-- Places in a log that is open.
use Rattle.std.proofs.Common.{◌≡◌, ℕ, ◌+◌, ◌≤◌, ◌<◌, List, [], ◌∷◌, ◌++◌, length, refl, sym, ◌∙◌, ap, arith, append_assoc, length-append}
use Rattle.std.proofs.lemmas.List.Concat.{flat_map-append, flat_map-cons}
use Rattle.up_log.specs.declared.entry.Entry.{Entry}
use Rattle.up_log.specs.declared.setup.Setup.{Setup}
use Rattle.up_log.specs.Blocks.{block, blocks, beginning, written, IsAtRest}
use Rattle.up_log.specs.Logs.{IsFileReadUpTo}
use Rattle.up_log.proofs.Crash.{closed_by}

written_append : (setup : Setup) (read left : List (List Entry)) → written setup (read ++ left) ≡ written setup read ++ blocks left
written_append setup read left =
    ap (λ (l : List ℕ). beginning setup ++ l) (flat_map-append block read left) ∙ sym (append_assoc (beginning setup) (blocks read) (blocks left))

-- a log at rest, read so far
pub part_of : (setup : Setup) (file : List ℕ) (place len : ℕ) (read left : List (List Entry)) → IsAtRest setup file (read ++ left) → place ≡ length (written setup read) → len ≡ length file → IsFileReadUpTo setup file place len read left
part_of setup file place len read left rest is all = record {
  back = rest.gate ∷ rest.behind;
  whole =
      rest.whole ∙ ap (λ (l : List ℕ). l ++ rest.gate ∷ rest.behind) (written_append setup read left)
      ∙ append_assoc (written setup read) (blocks left) (rest.gate ∷ rest.behind);
  closed = closed_by rest.gate rest.behind rest.shut;
  place = is;
  len_is = all;
}

-- how long a log is whose next batch has this place
longer : (setup : Setup) (read left : List (List Entry)) → length (written setup (read ++ left)) ≡ length (written setup read) + length (blocks left)
longer setup read left = ap length (written_append setup read left) ∙ length-append (written setup read) (blocks left)

block_some : (first : List Entry) (others : List (List Entry)) → 0 < length (blocks (first ∷ others))
block_some first others = omega (arith, ap length (flat_map-cons block first others), length-append (block first) (blocks others))

pub none_left : (setup : Setup) (gate place : ℕ) (read left : List (List Entry)) → gate ≡ length (written setup (read ++ left)) → place ≡ length (written setup read) → gate ≤ place → left ≡ []
none_left setup gate place read [] end is past = refl
none_left setup gate place read (first ∷ others) end is past =
    absurd (omega (arith, end, is, past, longer setup read (first ∷ others), block_some first others))

pub some_left : (setup : Setup) (gate place : ℕ) (read left : List (List Entry)) → gate ≡ length (written setup (read ++ left)) → place ≡ length (written setup read) → place < gate → (first : List Entry) × (others : List (List Entry)) × (left ≡ first ∷ others)
some_left setup gate place read [] end is before = absurd (omega (arith, end, is, before, longer setup read []))
some_left setup gate place read (first ∷ others) end is before = (first, others, refl)
