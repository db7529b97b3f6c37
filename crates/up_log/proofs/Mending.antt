-- What is left of a file whose end is repaired.
use Rattle.std.proofs.Common.{◌≡◌, ℕ, ◌+◌, ◌≤◌, List, [], ◌∷◌, ◌++◌, length, take, drop, sym, ◌∙◌, ap, arith, length-append, take-append-drop}
use Rattle.std.proofs.lemmas.List.{take_at, drop_all, length-drop}
use Rattle.sqlite_disk.specs.Disk.{Holds, Torn}
use Rattle.up_log.specs.declared.entry.Entry.{Entry}
use Rattle.up_log.specs.declared.setup.Setup.{Setup}
use Rattle.up_log.specs.Blocks.{written, IsAtRest, IsClosed, IsLog}
use Rattle.up_log.proofs.Crash.{front_same, held}

closed_short : (back : List ℕ) → length back ≤ 1 → IsClosed back
closed_short [] short = tt
closed_short (gate ∷ []) short = tt
closed_short (gate ∷ next ∷ rest) short = absurd (omega arith)

module _ (setup : Setup) (batches : List (List Entry)) (back file c : List ℕ) (gate : ℕ) (is : file ≡ written setup batches ++ back) (place : gate ≡ length (written setup batches)) (short : length file ≤ gate + 1) (torn : Torn gate 1 file c) where
  begins : take gate c ≡ written setup batches
  begins = front_same gate 1 file c torn (omega (arith, ap length is, length-append (written setup batches) back)) ∙ ap (λ (l : List ℕ). take gate l) is ∙ take_at (written setup batches) back gate (sym place)

  whole : c ≡ written setup batches ++ drop gate c
  whole = sym (take-append-drop gate c) ∙ ap (λ (l : List ℕ). l ++ drop gate c) begins

  pub gate_torn : IsLog setup c batches
  gate_torn = record { back = drop gate c; whole = whole; closed = closed_short (drop gate c) (omega (arith, length-drop gate c, torn.no_longer, short)) }

  pub gate_shut : Holds c gate (0 ∷ []) → IsAtRest setup c batches
  gate_shut holds =
      let nothing : drop (gate + 1) c ≡ [] = drop_all (gate + 1) c (omega (arith, torn.no_longer, short)) in
      record {
        gate = 0;
        behind = [];
        whole = whole ∙ ap (λ (l : List ℕ). written setup batches ++ l) (held gate c (0 ∷ []) holds ∙ ap (λ (l : List ℕ). 0 ∷ l) nothing);
        shut = omega arith;
      }
