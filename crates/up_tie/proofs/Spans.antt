-- Entries at numbers of lists.
use Rattle.std.proofs.Common.{◌≡◌, ◌<◌, ◌+◌, ◌-◌, ℕ, zero, suc, List, [], ◌∷◌, ◌++◌, length, Some, slice_get, refl, sym, subst, ap, ◌∙◌, arith, inl, inr}
use Rattle.std.proofs.lemmas.Bool.{cases_lt}
use mathlib.Core.List.{IsPrefix}
use Rattle.up_log.specs.declared.entry.Entry.{Entry}
use Rattle.up_tie.specs.Ties.{HasFrom, AreSame}

get-left : {E : Type 0} (xs ys : List E) (i : ℕ) (e : E) → slice_get xs i ≡ Some e → slice_get (xs ++ ys) i ≡ Some e
get-left [] ys i e h = absurd cc
get-left (x ∷ xs) ys zero e h = h
get-left (x ∷ xs) ys (suc i) e h = get-left xs ys i e h

get-behind : {E : Type 0} (xs ys : List E) (i n : ℕ) → n ≡ length xs + i → slice_get (xs ++ ys) n ≡ slice_get ys i
get-behind [] ys i n is = ap (slice_get ys) (omega (arith, is))
get-behind (x ∷ xs) ys i zero is = absurd (omega (arith, is))
get-behind (x ∷ xs) ys i (suc n) is = get-behind xs ys i n (omega (arith, is))

-- there is an entry at each number below the length
get-there : {E : Type 0} (xs : List E) (i : ℕ) → i < length xs → (e : E) × (slice_get xs i ≡ Some e)
get-there [] i lt = absurd (omega arith)
get-there (x ∷ xs) zero lt = (x, refl)
get-there (x ∷ xs) (suc i) lt = get-there xs i (omega arith)

-- what a list has at a number, each longer one has there
pub get-longer : {E : Type 0} (xs ys : List E) (i : ℕ) (e : E) → IsPrefix xs ys → slice_get xs i ≡ Some e → slice_get ys i ≡ Some e
get-longer xs ys i e p h = subst (λ l. slice_get l i ≡ Some e) p.1 (get-left xs p.0 i e h)

-- a part of a front, at its number
pub part-has : (front before entries after : List Entry) (first : ℕ) → front ≡ before ++ (entries ++ after) → length before ≡ first → HasFrom front first entries
part-has front before entries after first is len i e here =
    subst (λ l. slice_get l (first + i) ≡ Some e) (sym is)
    (get-behind before (entries ++ after) i (first + i) (omega (arith, len)) ∙ get-left entries after i e here)

-- the last entries of a front are the changes of a batch
pub written_same : (entries before batch changes : List Entry) (place first : ℕ)
    → entries ≡ before ++ batch → length before ≡ place → HasFrom changes first batch
    → AreSame (record { place = place; number = first; count = length batch }) entries changes
written_same entries before batch changes place first is len has i lt =
    let there = get-there batch i lt in (
      there.0,
      subst (λ l. slice_get l (place + i) ≡ Some there.0) (sym is) (get-behind before batch i (place + i) (omega (arith, len)) ∙ there.1),
      has i there.0 there.1,
    )

-- without the first
pub same-advance : (entries changes : List Entry) (place number count : ℕ)
    → AreSame (record { place = place; number = number; count = count }) entries changes
    → AreSame (record { place = place + 1; number = number + 1; count = count - 1 }) entries changes
same-advance entries changes place number count same i lt =
    let next = same (i + 1) (omega (arith, lt)) in (
      next.0,
      subst (λ n. slice_get entries n ≡ Some next.0) (omega arith) next.1,
      subst (λ n. slice_get changes n ≡ Some next.0) (omega arith) next.2,
    )

-- with those that follow
pub same-join : (entries changes entries2 changes2 entries3 changes3 : List Entry) (place number count place2 number2 count2 : ℕ)
    → AreSame (record { place = place; number = number; count = count }) entries changes
    → AreSame (record { place = place2; number = number2; count = count2 }) entries2 changes2
    → place2 ≡ place + count → number2 ≡ number + count
    → IsPrefix entries entries3 → IsPrefix entries2 entries3 → IsPrefix changes changes3 → IsPrefix changes2 changes3
    → AreSame (record { place = place; number = number; count = count + count2 }) entries3 changes3
same-join entries changes entries2 changes2 entries3 changes3 place number count place2 number2 count2 same same2 place_is number_is p p2 q q2 i lt =
    elim (cases_lt i count) [
      | inl less ↦
          let here = same i less in
          (here.0, get-longer entries entries3 (place + i) here.0 p here.1, get-longer changes changes3 (number + i) here.0 q here.2)
      | inr more ↦
          let here = same2 (i - count) (omega (arith, lt, more)) in (
            here.0,
            subst (λ n. slice_get entries3 n ≡ Some here.0) (omega (arith, place_is, more)) (get-longer entries2 entries3 (place2 + (i - count)) here.0 p2 here.1),
            subst (λ n. slice_get changes3 n ≡ Some here.0) (omega (arith, number_is, more)) (get-longer changes2 changes3 (number2 + (i - count)) here.0 q2 here.2),
          )
    ]
