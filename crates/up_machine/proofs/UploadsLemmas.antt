-- A tree of uploads as a finite map.
use Rattle.std.proofs.Common.{◌≡◌, ℕ, true, false, cond, Option, Some, None, Result, Ok, Err, OnOk, OnErr, List, [], ◌∷◌, refl, sym, ap, ◌∙◌}
use Rattle.std.specs.FinMap as map
use Rattle.std.specs.FinMap.{find, from_entries, get-from_entries, get-insert, get-remove, same_map, nat_cmp-IsAntisymmetric}
use Rattle.std.specs.Ordering.{nat_cmp}
use Rattle.std.specs.Cmp.{nat_cmp_total, eq_by_cmp_equiv}
use Rattle.std.specs.BTreeMap.{BTreeMap, is_at, WritesThrough}
use Rattle.std.specs.Prelude.{IsSome}
use Rattle.std.specs.Map.{lookup}
use Rattle.up_events.proofs.TrackLemmas.{same_id}
use Rattle.up_machine.specs.Content.{Content}

find_is : (es : List (ℕ × Content)) (q : ℕ) → find nat_cmp q es ≡ lookup (is_at (nat_cmp q)) es
find_is [] q = refl
find_is (e ∷ es) q = ap (cond (is_at (nat_cmp q) e.0) (Some e.1)) (find_is es q)

-- what the map of the entries has at an id
pub get_at : (es : List (ℕ × Content)) (q : ℕ) → map.get (from_entries {R = nat_cmp} es) q ≡ lookup (is_at (nat_cmp q)) es
get_at es q = get-from_entries nat_cmp_total es q ∙ find_is es q

-- entries that differ at one id make maps that differ there
pub one_put : (es fs : List (ℕ × Content)) (k : ℕ) (x : Content) → ((q : ℕ) → lookup (is_at (nat_cmp q)) fs ≡ cond (is_at (nat_cmp k) q) (Some x) (lookup (is_at (nat_cmp q)) es)) → from_entries {R = nat_cmp} fs ≡ map.insert (from_entries es) k x
one_put es fs k x h = same_map nat_cmp_total nat_cmp-IsAntisymmetric _ _ (λ q.
    get_at fs q ∙ h q ∙ ap (λ b. cond b (Some x) (lookup (is_at (nat_cmp q)) es)) ((eq_by_cmp_equiv nat_cmp_total).symm k q)
    ∙ sym (get-insert nat_cmp_total (from_entries es) k x q ∙ ap (cond (is_at (nat_cmp q) k) (Some x)) (get_at es q)))

-- entries that differ in one that is gone make maps that do
pub one_removed : (es fs : List (ℕ × Content)) (k : ℕ) → ((q : ℕ) → lookup (is_at (nat_cmp q)) fs ≡ cond (is_at (nat_cmp k) q) None (lookup (is_at (nat_cmp q)) es)) → from_entries {R = nat_cmp} fs ≡ map.remove (from_entries es) k
one_removed es fs k h = same_map nat_cmp_total nat_cmp-IsAntisymmetric _ _ (λ q.
    get_at fs q ∙ h q ∙ ap (λ b. cond b None (lookup (is_at (nat_cmp q)) es)) ((eq_by_cmp_equiv nat_cmp_total).symm k q)
    ∙ sym (get-remove nat_cmp_total (from_entries es) k q ∙ ap (cond (is_at (nat_cmp q) k) None) (get_at es q)))

-- from one fact at `Ok` to another
pub on_ok : {T E : Type 0} (r : Result T E) (P Q : Type 0) → (P → Q) → OnOk r P → OnOk r Q
on_ok (Ok x) P Q f p = f p
on_ok (Err e) P Q f p = p

pub on_err : {T E : Type 0} (r : Result T E) (P Q : Type 0) → (P → Q) → OnErr r P → OnErr r Q
on_err (Ok x) P Q f p = p
on_err (Err e) P Q f p = f p

some_of : {X : Type 0} (o : Option X) (x : X) → o ≡ Some x → IsSome o
some_of None x e = absurd (cc)
some_of (Some y) x e = refl

-- a write through what was lent
pub written : (m n : BTreeMap ℕ Content) (k : ℕ) (old new : Content) → Some old ≡ lookup (is_at (nat_cmp k)) m.entries → WritesThrough nat_cmp (nat_cmp k) m new n → from_entries {R = nat_cmp} n.entries ≡ map.insert (from_entries m.entries) k new
written m n k old new was w = one_put m.entries n.entries k new (w.3 (some_of _ old (sym was))).0

lookup_tied : (es : List (ℕ × Content)) (k q : ℕ) → is_at (nat_cmp k) q ≡ true → lookup (is_at (nat_cmp q)) es ≡ lookup (is_at (nat_cmp k)) es
lookup_tied es k q e = ap (λ j. lookup (is_at (nat_cmp j)) es) (sym (same_id k q e))

-- a write of the value that was there
pub rewritten : (m n : BTreeMap ℕ Content) (k : ℕ) (old new : Content) → Some old ≡ lookup (is_at (nat_cmp k)) m.entries → new ≡ old → WritesThrough nat_cmp (nat_cmp k) m new n → from_entries {R = nat_cmp} n.entries ≡ from_entries m.entries
rewritten m n k old new was same w = same_map nat_cmp_total nat_cmp-IsAntisymmetric _ _ (λ q.
    get_at n.entries q ∙ (w.3 (some_of _ old (sym was))).0 q
    ∙ elim (is_at (nat_cmp k) q) as (λ b. is_at (nat_cmp k) q ≡ b → cond b (Some new) (lookup (is_at (nat_cmp q)) m.entries) ≡ lookup (is_at (nat_cmp q)) m.entries) [
      | true ↦ λ e. ap Some same ∙ was ∙ sym (lookup_tied m.entries k q e)
      | false ↦ λ e. refl
    ] refl
    ∙ sym (get_at m.entries q))
