-- What an upload was created with stays.
use Rattle.std.proofs.Common.{◌≡◌, ◌≢◌, ℕ, true, false, cond, Option, Some, None, refl, sym, ap, ◌∙◌}
use Rattle.std.specs.FinMap as map
use Rattle.std.specs.FinMap.{get-insert, get-remove}
use Rattle.std.specs.Ordering.{nat_cmp, eq_by_cmp}
use Rattle.std.specs.Cmp.{nat_cmp_total}
use Rattle.up_events.proofs.TrackLemmas.{same_id}
use Rattle.up_headers.specs.declared.request.Patch.{Patch}
use Rattle.up_headers.specs.declared.request.Request.TheVariants as request
use Rattle.up_machine.specs.Content.{Content, made_of, patched}
use Rattle.up_machine.specs.State.{Contents, extended, first_bytes}
use Rattle.up_machine.specs.Details.{DetailsAreOfCreation, DetailsStay, details_of}

pub of_creation : DetailsAreOfCreation
of_creation id new bytes = refl

some_same : {X : Type 0} (x y : X) → Some x ≡ Some y → x ≡ y
some_same x y e = cc

same : (u : ℕ) (x y : Content) → Some x ≡ Some y → details_of u y ≡ details_of u x
same u x y e = ap (details_of u) (sym (some_same x y e))

-- an upload that is put at an id is, at any other id, none
put_elsewhere : (content : Contents) (id u : ℕ) (made x y : Content) → u ≢ id → map.get content u ≡ Some x → map.get (map.insert content id made) u ≡ Some y → details_of u y ≡ details_of u x
put_elsewhere content id u made x y other was is =
    elim (eq_by_cmp nat_cmp u id) as (λ b. eq_by_cmp nat_cmp u id ≡ b → cond b (Some made) (map.get content u) ≡ Some y → details_of u y ≡ details_of u x) [
      | true ↦ λ e _. absurd (other (same_id u id e))
      | false ↦ λ _ h. same u x y (sym was ∙ h)
    ] refl (sym (get-insert nat_cmp_total content id made u) ∙ is)

put_more : (content : Contents) (p : Patch) (u : ℕ) (x y : Content) (o : Option Content) → map.get content p.id ≡ o → map.get content u ≡ Some x → map.get (extended content p o) u ≡ Some y → details_of u y ≡ details_of u x
put_more content p u x y None at was is = same u x y (sym was ∙ is)
put_more content p u x y (Some z) at was is =
    elim (eq_by_cmp nat_cmp u p.id) as (λ b. eq_by_cmp nat_cmp u p.id ≡ b → cond b (Some (patched p z)) (map.get content u) ≡ Some y → details_of u y ≡ details_of u x) [
      | true ↦ λ e h. same u (patched p z) y h ∙ same u x z (sym was ∙ ap (map.get content) (same_id u p.id e) ∙ at)
      | false ↦ λ _ h. same u x y (sym was ∙ h)
    ] refl (sym (get-insert nat_cmp_total content p.id (patched p z) u) ∙ is)

taken_out : (content : Contents) (v u : ℕ) (x y : Content) → map.get content u ≡ Some x → map.get (map.remove content v) u ≡ Some y → details_of u y ≡ details_of u x
taken_out content v u x y was is =
    elim (eq_by_cmp nat_cmp u v) as (λ b. cond b None (map.get content u) ≡ Some y → details_of u y ≡ details_of u x) [
      | true ↦ λ h. absurd (cc)
      | false ↦ λ h. same u x y (sym was ∙ h)
    ] (sym (get-remove nat_cmp_total content v u) ∙ is)

pub stay : DetailsStay
stay content request.Options id u x y other was is = same u x y (sym was ∙ is)
stay content (request.Create new) id u x y other was is = put_elsewhere content id u (made_of new (first_bytes content new)) x y (other refl) was is
stay content (request.Head v) id u x y other was is = same u x y (sym was ∙ is)
stay content (request.Patch p) id u x y other was is = put_more content p u x y (map.get content p.id) refl was is
stay content (request.Delete v) id u x y other was is = taken_out content v u x y was is
stay content (request.Get v) id u x y other was is = same u x y (sym was ∙ is)
