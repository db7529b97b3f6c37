-- Beginnings of one list.
use Rattle.std.proofs.Common.{◌≡◌, ℕ, zero, suc, ◌≤◌, List, [], ◌∷◌, ◌++◌, length, take, Option, Some, None, refl, ap, sym, ◌∙◌, arith, length-append}
use Rattle.std.proofs.lemmas.List.{append-nil}
use mathlib.Core.List.{IsPrefix}
use Rattle.up_history.specs.Rules.{entries_in}

pub prefix_refl : {E : Type 0} (xs : List E) → IsPrefix xs xs
prefix_refl xs = ([], append-nil xs)

pub prefix-length : {E : Type 0} (xs ys : List E) → IsPrefix xs ys → length xs ≤ length ys
prefix-length xs ys p = omega (arith, sym (ap length p.1) ∙ length-append xs p.0)

-- of two beginnings of one list the shorter begins the longer
pub prefix_shorter : {E : Type 0} (xs ys zs : List E) → IsPrefix xs zs → IsPrefix ys zs → length xs ≤ length ys → IsPrefix xs ys
prefix_shorter [] ys zs p q le = (ys, refl)
prefix_shorter (x ∷ xs) [] zs p q le = absurd (omega arith)
prefix_shorter (x ∷ xs) (y ∷ ys) [] p q le = absurd (cc (p.1))
prefix_shorter (x ∷ xs) (y ∷ ys) (z ∷ zs) p q le =
    let heads : x ≡ y = cc (p.1, q.1) in
    let rest = prefix_shorter xs ys zs (p.0, cc (p.1)) (q.0, cc (q.1)) (omega arith) in
    (rest.0, cc (heads, rest.1))

-- a beginning that is as long as the whole
pub prefix_whole : {E : Type 0} (xs ys : List E) → IsPrefix xs ys → length ys ≤ length xs → xs ≡ ys
prefix_whole [] [] p le = refl
prefix_whole [] (y ∷ ys) p le = absurd (omega arith)
prefix_whole (x ∷ xs) [] p le = absurd (cc (p.1))
prefix_whole (x ∷ xs) (y ∷ ys) p le =
    let rest = prefix_whole xs ys (p.0, cc (p.1)) (omega arith) in cc (p.1, rest)

-- a list has each beginning of a beginning
pub prefix-take : {E : Type 0} (xs ys : List E) (n : ℕ) → IsPrefix xs ys → n ≤ length xs → take n xs ≡ take n ys
prefix-take xs ys zero p le = refl
prefix-take [] ys (suc n) p le = absurd (omega arith)
prefix-take (x ∷ xs) [] (suc n) p le = absurd (cc (p.1))
prefix-take (x ∷ xs) (y ∷ ys) (suc n) p le =
    let rest = prefix-take xs ys n (p.0, cc (p.1)) (omega arith) in cc (p.1, rest)

pub entries_in-append : {E : Type 0} (xs ys : List (Option E)) → entries_in (xs ++ ys) ≡ entries_in xs ++ entries_in ys
entries_in-append [] ys = refl
entries_in-append (None ∷ xs) ys = entries_in-append xs ys
entries_in-append (Some entry ∷ xs) ys = ap (λ l. entry ∷ l) (entries_in-append xs ys)

-- a beginning of a log has a beginning of its entries
pub entries_in-prefix : {E : Type 0} (xs ys : List (Option E)) → IsPrefix xs ys → IsPrefix (entries_in xs) (entries_in ys)
entries_in-prefix xs ys p = (entries_in p.0, sym (entries_in-append xs p.0) ∙ ap entries_in p.1)
