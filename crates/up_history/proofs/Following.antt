-- The first entries of a front.
use Rattle.std.proofs.Common.{◌≡◌, ◌≤◌, ℕ, zero, suc, ◌+◌, List, [], ◌∷◌, ◌++◌, length, take, Option, Some, None, slice_get, refl, ap, sym, add-one, arith}
use Rattle.std.proofs.lemmas.List.{length-take-le}
use mathlib.Core.List.{IsPrefix}
use Rattle.up_history.specs.Histories.{first_entries, HasFirst}

take_suc-get : {E : Type 0} (xs : List E) (n : ℕ) (x : E) → slice_get xs n ≡ Some x → take (suc n) xs ≡ take n xs ++ x ∷ []
take_suc-get [] n x h = absurd cc
take_suc-get (y ∷ xs) zero x h = cc (h)
take_suc-get (y ∷ xs) (suc n) x h = ap (λ l. y ∷ l) (take_suc-get xs n x h)

-- what stands at n is behind the first n
pub take-get : {E : Type 0} (xs : List E) (n : ℕ) (x : E) → slice_get xs n ≡ Some x → take (n + 1) xs ≡ take n xs ++ x ∷ []
take-get xs n x h = rw add-one (take_suc-get xs n x h)

pub first-length : {E : Type 0} (own : Option (List E)) (count : ℕ) → HasFirst own count → length (first_entries own count) ≡ count
first-length None count none = sym none
first-length (Some front) count has = length-take-le count front has

-- fewer of the first entries are a beginning of more
pub take_begins : {E : Type 0} (xs : List E) (m n : ℕ) → m ≤ n → IsPrefix (take m xs) (take n xs)
take_begins xs zero n le = (take n xs, refl)
take_begins [] (suc m) n le = (take n [], refl)
take_begins (x ∷ xs) (suc m) zero le = absurd (omega arith)
take_begins (x ∷ xs) (suc m) (suc n) le =
    let rest = take_begins xs m n (omega arith) in (rest.0, ap (λ l. x ∷ l) rest.1)
