-- Two texts at the front of one.
use Rattle.std.proofs.Common.{◌≡◌, ℕ, ◌≤◌, List, [], ◌∷◌, ◌++◌, length, take, drop, inl, inr, refl, sym, ◌∙◌, arith}
use Rattle.std.proofs.lemmas.List.{take-append-drop, take_all, length-take-le}
use Rattle.std.proofs.lemmas.Bool.{cases_lt}
use Rattle.std.proofs.Math.Seq.{take-append_seam}

-- two texts at the front of one: the shorter is a front of the longer
pub front_of : (a b x y : List ℕ) → a ++ x ≡ b ++ y → length b ≤ length a → (m : List ℕ) × (a ≡ b ++ m) × (m ++ x ≡ y)
front_of a [] x y e le = (a, refl, e)
front_of [] (q ∷ b) x y e le = absurd (omega arith)
front_of (p ∷ a) (q ∷ b) x y e le =
    let tail : a ++ x ≡ b ++ y = cc in
    let same : p ≡ q = cc in
    let more = front_of a b x y tail (omega arith) in
    let front : a ≡ b ++ more.0 = more.1 in
    (more.0, cc, more.2)

-- fronts of one length are the same
pub same_front : (a b x y : List ℕ) → a ++ x ≡ b ++ y → length a ≡ length b → (a ≡ b) × (x ≡ y)
same_front [] [] x y e same = (refl, e)
same_front [] (q ∷ b) x y e same = absurd (omega arith)
same_front (p ∷ a) [] x y e same = absurd (omega arith)
same_front (p ∷ a) (q ∷ b) x y e same =
    let tail : a ++ x ≡ b ++ y = cc in
    let first : p ≡ q = cc in
    let more = same_front a b x y tail (omega arith) in
    let front : a ≡ b = more.0 in
    (cc, more.1)

-- a front of this length is what is taken
pub front_taken : (n : ℕ) (all a x : List ℕ) → all ≡ a ++ x → length a ≡ n → take n all ≡ a
front_taken n all a x e long = (λ i. take (sym long i) (e i)) ∙ take-append_seam a x

-- a front that is no longer than what is taken stands in it
pub front_in_taken : (n : ℕ) (all a x : List ℕ) → all ≡ a ++ x → length a ≤ n → (m : List ℕ) × (take n all ≡ a ++ m)
front_in_taken n all a x e short =
    elim (cases_lt n (length all)) [
      | inl less ↦
          let long : length (take n all) ≡ n = length-take-le n all (omega arith) in
          let split = front_of (take n all) a (drop n all) x (take-append-drop n all ∙ e) (omega arith) in
          (split.0, split.1)
      | inr whole ↦ (x, take_all n all whole ∙ e)
    ]
