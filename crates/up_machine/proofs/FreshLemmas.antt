-- What uploads were created with stays so after a change.
use Rattle.std.proofs.Common.{◌≡◌, ◌≢◌, ◌++◌, ◌∷◌, [], ℕ, List, Option, Some, None, true, false, cond, is_some, option_map, refl, sym, ap, ◌∙◌, subst}
use Rattle.std.proofs.lemmas.List.Elements.{All-weaker}
use Rattle.std.specs.FinMap as map
use Rattle.std.specs.Option.{option_or}
use Rattle.std.specs.FinMap.{get-insert, get-remove}
use Rattle.std.specs.Ordering.{nat_cmp, eq_by_cmp}
use Rattle.std.specs.Cmp.{nat_cmp_total}
use Rattle.up_events.proofs.HistoryLemmas.{kind_of-snoc}
use Rattle.up_events.proofs.Sound.{alive_known}
use Rattle.up_events.proofs.TrackLemmas.{same_id}
use Rattle.up_events.specs.History.{is_known, is_terminated, kind_in, kind_of}
use Rattle.up_events.specs.Records.{Records, noted}
use Rattle.up_events.specs.declared.event.Accepted.{Accepted}
use Rattle.up_events.specs.declared.event.Kind.{Kind}
use Rattle.up_headers.specs.declared.request.Patch.{Patch}
use Rattle.up_machine.specs.Content.{Content, size_after, with_more}
use Rattle.up_machine.specs.State.{Contents, extended}
use Rattle.up_machine.specs.Fits.{Fits}
use Rattle.up_machine.proofs.FitsLemmas.{alive_at}
use Rattle.up_machine.specs.Details.{Details, IsOfUpload, details_of}
use Rattle.up_machine.specs.Fresh.{AreFresh}
use Rattle.up_machine.specs.declared.fresh.Fresh.{Fresh}

-- an upload that was known is known after a change, and what it was created with is the same, if it is still there
pub record Stays (content next : Contents) (before changes : List Accepted) : Type 0 where
  pub known : (u : ℕ) → is_known before u ≡ true → is_known changes u ≡ true
  pub same : (u : ℕ) (y : Content) → is_known before u ≡ true → map.get next u ≡ Some y → (x : Content) × ((map.get content u ≡ Some x) × (details_of u x ≡ details_of u y))

one_stays : (content next : Contents) (before changes : List Accepted) → Stays content next before changes → (d : Details) → IsOfUpload content before d → IsOfUpload next changes d
one_stays content next before changes stays d is =
    (stays.known d.id is.0, λ y at. let found = stays.same d.id y is.0 at in is.1 found.0 found.1.0 ∙ found.1.1)

all_stay : (content next : Contents) (before changes : List Accepted) (fresh : Option Fresh) → Stays content next before changes → AreFresh content before fresh → AreFresh next changes fresh
all_stay content next before changes None stays are = tt
all_stay content next before changes (Some fresh) stays are =
    All-weaker _ _ (λ list of. All-weaker _ _ (one_stays content next before changes stays) list.items of) fresh.lists.items are

some_same : {X : Type 0} (x y : X) → Some x ≡ Some y → x ≡ y
some_same x y e = cc

-- an upload that is there was created
pub one_there : (content : Contents) (changes : List Accepted) (u : ℕ) (d : Details) (o : Option Content) → Fits content changes → map.get content u ≡ o → Some d ≡ option_map (details_of u) o → IsOfUpload content changes d
one_there content changes u d None fits at is = absurd (cc)
one_there content changes u d (Some x) fits at is =
    let alive = alive_at content changes u x fits at in
    subst (IsOfUpload content changes) (sym (some_same d (details_of u x) is)) ((alive_known (is_known changes u) (is_terminated changes u) alive).0, λ y here. ap (details_of u) (some_same x y (sym at ∙ here)))

pub fresh_after : (content made next : Contents) (journal after : Records) (c : Accepted) (fresh : Option Fresh) → Stays content made journal.accepted (journal.accepted ++ c ∷ []) → next ≡ made → after ≡ noted journal c → AreFresh content journal.accepted fresh → AreFresh next after.accepted fresh
fresh_after content made next journal after c fresh stays is noted_is are =
    subst (λ m. AreFresh m after.accepted fresh) (sym is)
    (subst (λ (r : Records). AreFresh made r.accepted fresh) (sym noted_is)
    (all_stay content made journal.accepted (journal.accepted ++ c ∷ []) fresh stays are))

-- ---- each change

some_or : (o p : Option Kind) → is_some o ≡ true → is_some (option_or o p) ≡ true
some_or None p h = absurd (cc)
some_or (Some kind) p h = refl

known_more : (before : List Accepted) (c : Accepted) (u : ℕ) → is_known before u ≡ true → is_known (before ++ c ∷ []) u ≡ true
known_more before c u h = ap is_some (kind_of-snoc before c u) ∙ some_or (kind_of before u) (kind_in u c) h

other_id : (before : List Accepted) (u id : ℕ) → is_known before u ≡ true → is_known before id ≡ false → u ≢ id
other_id before u id known new e = cc

get_elsewhere : (content : Contents) (id u : ℕ) (made y : Content) → u ≢ id → map.get (map.insert content id made) u ≡ Some y → map.get content u ≡ Some y
get_elsewhere content id u made y other is =
    elim (eq_by_cmp nat_cmp u id) as (λ b. eq_by_cmp nat_cmp u id ≡ b → cond b (Some made) (map.get content u) ≡ Some y → map.get content u ≡ Some y) [
      | true ↦ λ e _. absurd (other (same_id u id e))
      | false ↦ λ _ h. h
    ] refl (sym (get-insert nat_cmp_total content id made u) ∙ is)

pub stays_created : (content : Contents) (before : List Accepted) (c : Accepted) (id : ℕ) (made : Content) → is_known before id ≡ false → Stays content (map.insert content id made) before (before ++ c ∷ [])
stays_created content before c id made new =
    record {
      known = known_more before c;
      same = λ u y known at. (y, (get_elsewhere content id u made y (other_id before u id known new) at, refl));
    }

more_at : (content : Contents) (id u : ℕ) (x y : Content) (size : Option ℕ) (more : List ℕ) → map.get content id ≡ Some x → map.get (map.insert content id (with_more x size more)) u ≡ Some y → (z : Content) × ((map.get content u ≡ Some z) × (details_of u z ≡ details_of u y))
more_at content id u x y size more at is =
    elim (eq_by_cmp nat_cmp u id) as (λ b. eq_by_cmp nat_cmp u id ≡ b → cond b (Some (with_more x size more)) (map.get content u) ≡ Some y → (z : Content) × ((map.get content u ≡ Some z) × (details_of u z ≡ details_of u y))) [
      | true ↦ λ e h. (x, (ap (map.get content) (same_id u id e) ∙ at, ap (details_of u) (some_same (with_more x size more) y h)))
      | false ↦ λ _ h. (y, (h, refl))
    ] refl (sym (get-insert nat_cmp_total content id (with_more x size more) u) ∙ is)

pub stays_patched : (content : Contents) (before : List Accepted) (c : Accepted) (p : Patch) (o : Option Content) → map.get content p.id ≡ o → Stays content (extended content p o) before (before ++ c ∷ [])
stays_patched content before c p None at =
    record {
      known = known_more before c;
      same = λ u y known is. (y, (is, refl));
    }
stays_patched content before c p (Some x) at =
    record {
      known = known_more before c;
      same = λ u y known is. more_at content p.id u x y (size_after p x) p.bytes at is;
    }

get_left : (content : Contents) (id u : ℕ) (y : Content) → map.get (map.remove content id) u ≡ Some y → map.get content u ≡ Some y
get_left content id u y is =
    elim (eq_by_cmp nat_cmp u id) as (λ b. cond b None (map.get content u) ≡ Some y → map.get content u ≡ Some y) [
      | true ↦ λ h. absurd (cc)
      | false ↦ λ h. h
    ] (sym (get-remove nat_cmp_total content id u) ∙ is)

pub stays_removed : (content : Contents) (before : List Accepted) (c : Accepted) (id : ℕ) → Stays content (map.remove content id) before (before ++ c ∷ [])
stays_removed content before c id =
    record {
      known = known_more before c;
      same = λ u y known is. (y, (get_left content id u y is, refl));
    }
