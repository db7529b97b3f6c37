-- A shorter log of a log that goes on.
use Rattle.std.proofs.Common.{◌≡◌, ℕ, Bool, true, false, cond, not, List, [], ◌∷◌, ◌++◌, length, refl, sym, ap, ◌∙◌, subst, arith}
use Rattle.std.specs.List.{All}
use Rattle.std.proofs.lemmas.List.Concat.{flat_map-append}
use Rattle.std.proofs.lemmas.List.Elements.{All-head, All-tail, filter-append}
use Rattle.up_log.specs.declared.entry.Entry.{Entry}
use Rattle.up_machine.specs.State.{State}
use Rattle.up_replay.specs.Replay.{entries_of, replayed, replayed_one}
use Rattle.up_replay.proofs.ReplayLemmas.{go_on}
use Rattle.up_compact.specs.Shorter.{AreGone, IsWithoutEnded, is_left_out, kept, makes}
use Rattle.up_compact.specs.Writing.{WrittenGoesOn, carried_out, staying}
use Rattle.up_compact.proofs.Adding.{carried_append, written_defines}
use Rattle.up_compact.proofs.Ending.{ended_stay, gone_one, unmoved}

-- entries about uploads that aren't there change nothing
kept_same : (among : ℕ → Bool) (t : State) (more : List Entry) → AreGone among t.content → All (λ (entry : Entry). makes among entry.request entry.id ≡ false) more → replayed t (kept among more) ≡ replayed t more
unfolding replayed
kept_same among t [] gone none = refl
kept_same among t (entry ∷ more) gone none =
    let MakesNone : Entry → Type 0 = λ (x : Entry). makes among x.request x.id ≡ false in
    let here = All-head MakesNone entry more none in
    let rest = All-tail MakesNone entry more none in
    elim (is_left_out among entry) as (λ b. is_left_out among entry ≡ b → replayed t (cond (not b) (entry ∷ kept among more) (kept among more)) ≡ replayed (replayed_one t entry) more) [
      | true ↦ λ about. kept_same among t more gone rest ∙ ap (λ (x : State). replayed x more) (sym (unmoved among t entry.id entry.consent entry.place entry.request gone about here))
      | false ↦ λ other. kept_same among (replayed_one t entry) more (gone_one among t entry other gone) rest
    ] refl

pub written_goes_on : WrittenGoesOn
written_goes_on is_void among s read left new joins gone none =
    let before = carried_out is_void 0 (entries_of read) in
    let more = carried_out is_void (length (entries_of read)) (entries_of left) in
    let all : carried_out is_void 0 (entries_of (read ++ left)) ≡ before ++ more =
    ap (carried_out is_void 0) (flat_map-append (λ (batch : List Entry). batch) read left)
    ∙ carried_append is_void 0 (entries_of read) (entries_of left)
    ∙ ap (λ (n : ℕ). before ++ carried_out is_void n (entries_of left)) (omega arith) in
    let longer : replayed s (carried_out is_void 0 (entries_of (read ++ left))) ≡ replayed (replayed s before) more = ap (replayed s) all ∙ go_on s before more in
    let without = written_defines is_void among s read new joins in
    let shorter : replayed s (staying is_void among (read ++ left)) ≡ replayed (replayed s (kept among before)) more =
    ap (λ (l : List Entry). replayed s (kept among l)) all
    ∙ ap (replayed s) (filter-append (λ (entry : Entry). not (is_left_out among entry)) before more)
    ∙ go_on s (kept among before) (kept among more)
    ∙ kept_same among (replayed s (kept among before)) more without.gone none in
    let ended = ended_stay among (replayed s before) (replayed s (kept among before)) more (record { without = without; ended = gone }) none in
    subst (λ (x : State). IsWithoutEnded among x (replayed s (staying is_void among (read ++ left)))) (sym longer)
    (subst (IsWithoutEnded among (replayed (replayed s before) more)) (sym shorter) ended)
