-- What is left of a file whose gate is closed after a call that failed.
use Rattle.std.proofs.Common.{◌≡◌, inl, inr, ℕ, ◌+◌, List, [], ◌∷◌, ◌++◌, length, get_or, drop, sym, ◌∙◌, ap, subst, arith, append_assoc}
use Rattle.std.proofs.lemmas.Bool.{cases_eq}
use Rattle.std.proofs.lemmas.List.{drop_at}
use Rattle.std.specs.Prelude.{Err, Ok, OnOk, Result}
use Rattle.sqlite_disk.specs.Disk.{Holds, Torn}
use Rattle.up_log.specs.declared.entry.Entry.{Entry}
use Rattle.up_log.specs.declared.setup.Setup.{Setup}
use Rattle.up_log.specs.Blocks.{body, block, blocks, written, IsAtRest, IsBeforeOrAfter, IsLog}
use Rattle.up_log.proofs.Batches.{split}
use Rattle.up_log.proofs.Crash.{closed_by, torn_gate, written_push}

-- what holds anyway holds after an `Ok`, also if something is known there
pub on_ok : {T E : Type 0} (P : Type 0) (result : Result T E) → P → OnOk result P
on_ok P (Ok x) p = p
on_ok P (Err e) p = tt

pub on_ok_then : {T E : Type 0} (P Q : Type 0) (result : Result T E) → OnOk result P → OnOk result (Q → P)
on_ok_then P Q (Ok x) p = λ q. p
on_ok_then P Q (Err e) p = tt

module _ (setup : Setup) (batches : List (List Entry)) (more : List Entry) (gate : ℕ) (place : gate ≡ length (written setup batches)) where
  one_behind : (back : List ℕ) → written setup (batches ++ more ∷ []) ++ back ≡ written setup batches ++ 1 ∷ (body more ++ back)
  one_behind back = ap (λ (l : List ℕ). l ++ back) (sym (written_push setup batches more)) ∙ append_assoc (written setup batches) (block more) back

  -- what stands behind the batches, without the one that was being added and with it
  pub tail_before : (file : List ℕ) (log : IsLog setup file batches) → drop gate file ≡ blocks [] ++ log.back
  tail_before file log = ap (λ (l : List ℕ). drop gate l) log.whole ∙ drop_at (written setup batches) log.back gate (sym place)

  pub tail_after : (file : List ℕ) (log : IsLog setup file (batches ++ more ∷ [])) → drop gate file ≡ blocks (more ∷ []) ++ log.back
  tail_after file log =
      ap (λ (l : List ℕ). drop gate l) (log.whole ∙ one_behind log.back)
      ∙ drop_at (written setup batches) (1 ∷ (body more ++ log.back)) gate (sym place)
      ∙ sym (split more [] log.back)

  module _ (file c : List ℕ) (log : IsLog setup file (batches ++ more ∷ [])) (torn : Torn gate 1 file c) where
    is : c ≡ written setup batches ++ get_or c gate 0 ∷ (body more ++ log.back)
    is = torn_gate (written setup batches) 1 (body more ++ log.back) gate place c (subst (λ (f : List ℕ). Torn gate 1 f c) (log.whole ∙ one_behind log.back) torn)

    -- a gate that is being closed is open or closed
    pub closing : IsBeforeOrAfter setup batches more c
    closing = elim (cases_eq (get_or c gate 0) 1) [
      | inl is_open ↦ inr (record {
        back = log.back;
        whole = is ∙ ap (λ (v : ℕ). written setup batches ++ v ∷ (body more ++ log.back)) is_open ∙ sym (one_behind log.back);
        closed = log.closed;
      })
      | inr shut ↦ inl (record {
        back = get_or c gate 0 ∷ (body more ++ log.back);
        whole = is;
        closed = closed_by (get_or c gate 0) (body more ++ log.back) shut;
      })
    ]

    pub closed : Holds c gate (0 ∷ []) → IsAtRest setup c batches
    closed holds =
        let here : gate + 0 ≡ gate = omega arith in
        let first : get_or c gate 0 ≡ 0 = ap (λ (k : ℕ). get_or c k 0) (sym here) ∙ holds.each 0 (omega arith) in
        record {
          gate = 0;
          behind = body more ++ log.back;
          whole = is ∙ ap (λ (v : ℕ). written setup batches ++ v ∷ (body more ++ log.back)) first;
          shut = omega arith;
        }
