-- What holds of each member of a list, by its place, after one write.
use Rattle.std.proofs.Common.{◌≡◌, ◌≢◌, ℕ, true, false, eqb, Some, List, [], ◌∷◌, ◌++◌, length, zero, suc, refl, sym, subst, arith, slice_get, slice_set}
use Rattle.std.proofs.lemmas.Bool.{eqb-true}

-- what holds of each member and its place holds of each after one write, where it does of the new one
pub each_set : {X : Type 0} (P Q : ℕ → X → Type 0) (xs : List X) (i : ℕ) (new : X) → ((k : ℕ) (x : X) → slice_get xs k ≡ Some x → P k x) → Q i new → ((k : ℕ) (x : X) → k ≢ i → P k x → Q k x) → (k : ℕ) (x : X) → slice_get (slice_set xs i new) k ≡ Some x → Q k x
each_set P Q [] i new old here there k x e = absurd (cc)
each_set P Q (y ∷ ys) zero new old here there zero x e = subst (Q zero) (let h : new ≡ x = cc in h) here
each_set P Q (y ∷ ys) zero new old here there (suc k) x e = there (suc k) x (λ h. absurd (omega arith)) (old (suc k) x e)
each_set P Q (y ∷ ys) (suc i) new old here there zero x e = there zero x (λ h. absurd (omega arith)) (old zero x e)
each_set P Q (y ∷ ys) (suc i) new old here there (suc k) x e =
    each_set (λ k. P (suc k)) (λ k. Q (suc k)) ys i new (λ k x e. old (suc k) x e) here (λ k x h. there (suc k) x (λ e. h (omega arith))) k x e

pub not_same : (k u : ℕ) → u ≢ k → eqb k u ≡ false
not_same k u h = elim (eqb k u) as (λ b. eqb k u ≡ b → b ≡ false) [ true ↦ λ e. absurd (h (sym (eqb-true k u e))) | false ↦ λ e. refl ] refl

-- the same after one more at the end
pub each_push : {X : Type 0} (P : ℕ → X → Type 0) (xs : List X) (new : X) → ((k : ℕ) (x : X) → slice_get xs k ≡ Some x → P k x) → P (length xs) new → (k : ℕ) (x : X) → slice_get (xs ++ new ∷ []) k ≡ Some x → P k x
each_push P [] new old here zero x e = subst (P zero) (let h : new ≡ x = cc in h) here
each_push P [] new old here (suc k) x e = absurd (cc)
each_push P (y ∷ ys) new old here zero x e = old zero x e
each_push P (y ∷ ys) new old here (suc k) x e = each_push (λ k. P (suc k)) ys new (λ k x e. old (suc k) x e) here k x e
