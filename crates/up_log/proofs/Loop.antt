-- Reading fields one after the other, as a loop does.
use Rattle.std.proofs.Common.{◌≡◌, ℕ, suc, ◌-◌, ◌+◌, ◌≤◌, ◌<◌, List, [], ◌∷◌, ◌++◌, Some, None, refl, sym, ap, ◌∙◌, append_assoc, arith}
use Rattle.std.proofs.lemmas.List.{append-nil}
use Rattle.up_log.specs.declared.fault.Unread.{Unread}
use Rattle.up_log.specs.declared.fault.Unread.TheVariants as unread
use Rattle.up_log.specs.Reading.{◌>>=◌, Read, Fails, so_many_at}

-- what was read before, and what is still read
abbrev pub with_front : {X : Type 0} → List X → Read (List X) → Read (List X)
with_front front read = read >>= λ x. Some (front ++ x.0, x.1)

regroup : {X : Type 0} (front : List X) (n : X) (read : Read (List X)) → with_front front (read >>= λ x. Some (n ∷ x.0, x.1)) ≡ with_front (front ++ n ∷ []) read
regroup front n (Some x) = ap (λ (ns : List _). Some (ns, x.1)) (simp append_assoc)
regroup front n None = refl

pub goes_on : {X : Type 0} (field : List ℕ → Read X) (front : List X) (count i : ℕ) (bytes : List ℕ) (n : X) (after : List ℕ) (total : Read (List X)) → i < count → field bytes ≡ Some (n, after)
    → with_front front (so_many_at field (count - i) bytes) ≡ total → with_front (front ++ n ∷ []) (so_many_at field (count - (i + 1)) after) ≡ total
unfolding so_many_at
goes_on field front count i bytes n after total lt h so_far =
    let k : count - i ≡ suc (count - (i + 1)) = omega arith in
    let one : with_front front (so_many_at field (count - i) bytes) ≡ with_front (front ++ n ∷ []) (so_many_at field (count - (i + 1)) after) = rw (k, h) (regroup front n (so_many_at field (count - (i + 1)) after)) in
    sym one ∙ so_far

pub ends : {X : Type 0} (field : List ℕ → Read X) (e : Unread) (front : List X) (count i : ℕ) (bytes : List ℕ) (total : Read (List X)) → i < count → Fails e (field bytes)
    → with_front front (so_many_at field (count - i) bytes) ≡ total → Fails e total
unfolding so_many_at
ends field unread.Memory front count i bytes total lt h so_far = tt
ends field (unread.NotThere start) front count i bytes total lt h so_far = tt
ends field unread.Damaged front count i bytes total lt h so_far =
    let k : count - i ≡ suc (count - (i + 1)) = omega arith in
    let one : with_front front (so_many_at field (count - i) bytes) ≡ None = rw (k, h) refl in
    sym so_far ∙ one

pub is_done : {X : Type 0} (field : List ℕ → Read X) (front : List X) (count i : ℕ) (bytes : List ℕ) (total : Read (List X)) → count ≤ i → with_front front (so_many_at field (count - i) bytes) ≡ total → total ≡ Some (front, bytes)
unfolding so_many_at
is_done field front count i bytes total le so_far =
    let k : count - i ≡ 0 = omega arith in
    let one : with_front front (so_many_at field (count - i) bytes) ≡ Some (front, bytes) = rw k (ap (λ (ns : List _). Some (ns, bytes)) (append-nil front)) in
    sym so_far ∙ one
