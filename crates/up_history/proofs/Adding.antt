-- The exchange that adds an entry keeps the rule.
use Rattle.std.proofs.Common.{◌≡◌, ◌≢◌, ℕ, ◌+◌, ◌<◌, ◌≤◌, ◌==◌, MatchBool, Bool, true, false, List, [], ◌∷◌, ◌++◌, length, Option, Some, None, refl, ap, sym, ◌∙◌, subst, arith, inl, length-append}
use Rattle.std.proofs.lemmas.List.{append-nil}
use Rattle.std.proofs.lemmas.Bool.Decides.{nat_tests}
use mathlib.Core.List.{IsPrefix}
use prog.Atomic.{either}
use Rattle.logbook.specs.Pages.{Cell, cell, keeps, no_nib, step, Moves, Goes}
use Rattle.up_history.specs.Histories.{IsLonger}
use Rattle.up_history.specs.Rules.{entries_in, IsCounted, Adds}
use Rattle.up_history.proofs.Beginnings.{entries_in-append, entries_in-prefix, prefix-length, prefix_whole}

-- what clients see of a log: nothing
abbrev pub shown : {E : Type 0} → List (Option E) → List (Option E)
shown log = []

abbrev pub moved : {E : Type 0} → List (Option E) → List (Option E) → ℕ → Type 0
moved before after answer = Unit {0}

-- how the step goes on from a log of which v was seen
abbrev pub GoesOn : {E : Type 0} → List (Option E) → E → ℕ → List Cell → List (Option E) → Type 0
GoesOn v entry old cells log =
    Goes IsCounted shown moved 0 (v, (no_nib, None)) (λ n. either (n == old) (old + 1) n) (Adds (step 0 old (old + 1) (Some entry)) (v, (no_nib, None))) cells log

pub goes_on : {E : Type 0} (log v : List (Option E)) (entry : E) (old : ℕ) → length (entries_in v) ≡ old → IsPrefix v log
    → (b : Bool) → (length (entries_in log) == old) ≡ b
    → GoesOn v entry old ((length (entries_in log), true) ∷ (0, true) ∷ []) log
goes_on log v entry old len begins true is =
    let here : length (entries_in log) ≡ old = grind (arith, nat_tests) in
    let same : entries_in v ≡ entries_in log = prefix_whole (entries_in v) (entries_in log) (entries_in-prefix v log begins) (omega arith) in
    let all : entries_in (log ++ Some entry ∷ []) ≡ entries_in log ++ entry ∷ [] = entries_in-append log (Some entry ∷ []) in
    let count : either (length (entries_in log) == old) (old + 1) (length (entries_in log)) ≡ length (entries_in (log ++ Some entry ∷ [])) =
    rw is (omega (arith, ap length all, length-append (entries_in log) (entry ∷ []))) in (
      keeps,
      Some entry ∷ [],
      None,
      tt,
      ap (λ (k : ℕ). (k, true) ∷ (0, true) ∷ []) count,
      inl (refl, refl),
      rw is (all ∙ ap (λ l. l ++ entry ∷ []) (sym same)),
    )
goes_on log v entry old len begins false is =
    let all : log ++ [] ≡ log = append-nil log in
    let count : either (length (entries_in log) == old) (old + 1) (length (entries_in log)) ≡ length (entries_in (log ++ [])) =
    rw is (ap (λ l. length (entries_in l)) (sym all)) in (
      keeps,
      [],
      None,
      tt,
      ap (λ (k : ℕ). (k, true) ∷ (0, true) ∷ []) count,
      inl (refl, refl),
      rw is (ap (λ l. length (entries_in l)) all),
    )

-- whatever the log is, the exchange adds the entry to all that was seen, or finds that the history is longer
pub moves : {E : Type 0} (v : List (Option E)) (entry : E) (old : ℕ) → length (entries_in v) ≡ old
    → Moves IsCounted shown moved 0 (v, (no_nib, None)) (λ n. either (n == old) (old + 1) n) (Adds (step 0 old (old + 1) (Some entry)) (v, (no_nib, None)))
moves v entry old len cells log counted begins away =
    let P : List Cell → Type 0 = λ c. (0 < length c) × ((cell c 0).1 ≡ true) × GoesOn v entry old c log in
    subst P (sym counted) (omega arith, refl, goes_on log v entry old len begins (length (entries_in log) == old) refl)

told : {E : Type 0} (v w : List (Option E)) (ask : Option E) (entry : E) (found count : ℕ) → length (entries_in v) ≡ count → ask ≡ Some entry → IsPrefix v w
    → (b : Bool) → (found == count) ≡ b
    → MatchBool b (entries_in w ≡ entries_in v ++ entries_in (ask ∷ [])) (length (entries_in w) ≡ found)
    → MatchBool b (entries_in w ≡ entries_in v ++ entry ∷ []) (IsLonger (entries_in v) (entries_in w))
told v w ask entry found count len is begins true eq added = added ∙ ap (λ a. entries_in v ++ entries_in (a ∷ [])) is
told v w ask entry found count len is begins false eq seen =
    let front = entries_in-prefix v w begins in
    let le : length (entries_in v) ≤ length (entries_in w) = prefix-length (entries_in v) (entries_in w) front in
    let other : found ≢ count = grind (arith, nat_tests) in
    (front, omega (arith, le, other))

-- what the exchange tells, as clients see it
pub adds_tell : {E : Type 0} (v w : List (Option E)) (ask : Option E) (entry : E) (found count : ℕ) → length (entries_in v) ≡ count → ask ≡ Some entry → IsPrefix v w
    → MatchBool (found == count) (entries_in w ≡ entries_in v ++ entries_in (ask ∷ [])) (length (entries_in w) ≡ found)
    → MatchBool (found == count) (entries_in w ≡ entries_in v ++ entry ∷ []) (IsLonger (entries_in v) (entries_in w))
adds_tell v w ask entry found count len is begins known = told v w ask entry found count len is begins (found == count) refl known
