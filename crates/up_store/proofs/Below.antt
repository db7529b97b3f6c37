-- A fact of the first places of a list, and of one more.
use Rattle.std.proofs.Common.{◌≡◌, ◌≢◌, ℕ, ◌+◌, ◌<◌, List, length, slice_index_or, ⊎_elim, sym, subst, arith}
use Rattle.std.proofs.lemmas.List.{get_or_default}
use Rattle.std.proofs.lemmas.Bool.{cases_eq}

pub each_below : {X : Type 0} (P : ℕ → X → Type 0) (xs : List X) (i : ℕ) (e : X) → i < length xs
    → ((k : ℕ) (d : X) → k < i → P k (slice_index_or xs k d)) → P i (slice_index_or xs i e)
    → (k : ℕ) (d : X) → k < i + 1 → P k (slice_index_or xs k d)
each_below P xs i e within below here k d under =
    ⊎_elim
    (λ (is : k ≡ i). subst (λ (n : ℕ). P n (slice_index_or xs n d)) (sym is) (subst (P i) (get_or_default xs i e d within) here))
    (λ (ne : k ≢ i). below k d (omega (arith, under, ne)))
    (cases_eq k i)
