-- Books that differ in uploads that have ended.
use Rattle.std.proofs.Common.{◌≡◌, ℕ, Bool, true, false, cond, Option, Some, None, [], ◌∷◌, length, refl, sym, ap, ◌∙◌, subst}
use Rattle.std.specs.FinMap as map
use Rattle.std.specs.FinMap.{same_map, nat_cmp-IsAntisymmetric}
use Rattle.std.specs.Cmp.{nat_cmp_total}
use Rattle.std.proofs.lemmas.Bool.{false≢true}
use Rattle.std.proofs.lemmas.List.Elements.{All-head, All-tail}
use Rattle.up_events.specs.declared.event.Accepted.TheVariants.{Terminated}
use Rattle.up_headers.specs.Rows.{first_that_holds}
use Rattle.up_headers.specs.declared.request.Request.{Request}
use Rattle.up_headers.specs.declared.request.Request.TheVariants as request
use Rattle.up_headers.specs.declared.request.Patch.{Patch}
use Rattle.up_log.specs.declared.entry.Consent.{Consent}
use Rattle.up_log.specs.declared.entry.Entry.{Entry}
use Rattle.up_places.specs.declared.position.Position.{Position}
use Rattle.up_machine.specs.Content.{made_of}
use Rattle.up_machine.specs.Decision.{change_of, create_rows, decide_plan, patch_change, patch_declared, patch_offset, response_to, rows_of, unless}
use Rattle.up_machine.specs.Responses.{reached_offset, removed}
use Rattle.up_machine.specs.State.{Contents, State, after, first_bytes}
use Rattle.up_machine.specs.declared.plan.Asked.{Asked}
use Rattle.up_machine.specs.declared.plan.Done.{Done}
use Rattle.up_machine.specs.declared.refusal.Refusal.{Refusal}
use Rattle.up_machine.specs.declared.refusal.Refusal.TheVariants as refusal
use Rattle.up_message.specs.declared.response.Response.{Response}
use Rattle.up_replay.specs.Replay.{asked_of, carried, replayed, replayed_one}
use Rattle.up_compact.specs.Shorter.{AreGone, EndedAreDecidedAlike, EndedArePlannedAlike, EndedContentsAreEqual, EndedStayAlike, IsWithoutEnded, is_about, makes}
use Rattle.up_compact.proofs.Others.{others_known}
use Rattle.up_compact.proofs.Deciding.{LooksAlike, decided_alike, delete_decision, patch_decision}
use Rattle.up_compact.proofs.Shortening.{both_one, change_cases, gone_extended, gone_inserted, gone_removed}

pub ended_contents : EndedContentsAreEqual
ended_contents among s t e = same_map nat_cmp_total nat_cmp-IsAntisymmetric t.content s.content (λ u.
    elim (among u) as (λ b. among u ≡ b → map.get t.content u ≡ map.get s.content u) [
      | true ↦ λ inside. e.without.gone u inside ∙ sym (e.ended u inside)
      | false ↦ λ outside. e.without.content u outside
    ] refl)

looks : (among : ℕ → Bool) (s t : State) (r : Request) (id : ℕ) → IsWithoutEnded among s t → makes among r id ≡ false → LooksAlike s t r id
looks among s t request.Options id e none = tt
looks among s t (request.Create new) id e none =
    let same = ended_contents among s t e in
    (ap (λ c. create_rows c s.max_size new) same, ap (λ c. first_bytes c new) same, others_known among s t id e.without none)
looks among s t (request.Head u) id e none = ap (λ c. map.get c u) (ended_contents among s t e)
looks among s t (request.Patch p) id e none = ap (λ c. map.get c p.id) (ended_contents among s t e)
looks among s t (request.Delete u) id e none = ap (λ c. map.get c u) (ended_contents among s t e)
looks among s t (request.Get u) id e none = ap (λ c. map.get c u) (ended_contents among s t e)

pub ended_decided : EndedAreDecidedAlike
ended_decided among s t r id asked e none = decided_alike s t r id asked e.without.closed e.without.max_size (looks among s t r id e none)

module _ (among : ℕ → Bool) (s t : State) (e : IsWithoutEnded among s t) (r : Request) where
  planned_to : decide_plan t r ≡ decide_plan (record s { journal = t.journal }) r
  planned_to =
      ap (λ (c : Contents). decide_plan (record t { content = c }) r) (ended_contents among s t e)
      ∙ ap (λ (b : Bool). decide_plan (record t { content = s.content; closed = b }) r) e.without.closed
      ∙ ap (λ (n : ℕ). decide_plan (record t { content = s.content; closed = s.closed; max_size = n }) r) e.without.max_size

-- a plan doesn't look at the journal
unread : (s t : State) (r : Request) → decide_plan (record s { journal = t.journal }) r ≡ decide_plan s r
unread s t request.Options = refl
unread s t (request.Create new) = refl
unread s t (request.Head u) = refl
unread s t (request.Patch p) = refl
unread s t (request.Delete u) = refl
unread s t (request.Get u) = refl

pub ended_planned : EndedArePlannedAlike
ended_planned among s t r e = planned_to among s t e r ∙ unread s t r

-- ---- more entries

-- nothing is done with an upload that isn't there
module _ (s : State) (entry : Entry) where
  patch_unmoved : (p : Patch) (asked : Asked) → carried s entry (patch_decision p asked s.closed s.max_size None) ≡ s
  patch_unmoved p asked =
      let done : Done = record { response = reached_offset (patch_offset p None); change = patch_change p None } in
      elim s.closed as (λ b. carried s entry (unless (cond b (Some refusal.Closed) (Some refusal.NotFound)) done) ≡ s) [ true ↦ refl | false ↦ refl ]

  delete_unmoved : (u : ℕ) (asked : Asked) → carried s entry (delete_decision u asked s.closed None) ≡ s
  delete_unmoved u asked =
      let done : Done = record { response = removed; change = Some (Terminated u) } in
      elim s.closed as (λ b. carried s entry (unless (cond b (Some refusal.Closed) (Some refusal.NotFound)) done) ≡ s) [ true ↦ refl | false ↦ refl ]

  looked : (o : Option Refusal) (response : Response) → carried s entry (unless o (record { response = response; change = None })) ≡ s
  looked None response = refl
  looked (Some refused) response = refl

pub unmoved : (among : ℕ → Bool) (s : State) (id : ℕ) (consent : Consent) (place : Option Position) (r : Request) → AreGone among s.content → is_about among r id ≡ true → makes among r id ≡ false → replayed_one s (record { id = id; consent = consent; place = place; request = r }) ≡ s
unmoved among s id consent place request.Options gone about none = refl
unmoved among s id consent place (request.Create new) gone about none = absurd (false≢true (sym none ∙ about))
unmoved among s id consent place (request.Head u) gone about none =
    let entry : Entry = record { id = id; consent = consent; place = place; request = request.Head u } in
    looked s entry (first_that_holds (rows_of s (request.Head u) id (asked_of consent))) (response_to s (request.Head u) id)
unmoved among s id consent place (request.Patch p) gone about none =
    let entry : Entry = record { id = id; consent = consent; place = place; request = request.Patch p } in
    ap (λ o. carried s entry (patch_decision p (asked_of consent) s.closed s.max_size o)) (gone p.id about)
    ∙ patch_unmoved s entry p (asked_of consent)
unmoved among s id consent place (request.Delete u) gone about none =
    let entry : Entry = record { id = id; consent = consent; place = place; request = request.Delete u } in
    ap (λ o. carried s entry (delete_decision u (asked_of consent) s.closed o)) (gone u about)
    ∙ delete_unmoved s entry u (asked_of consent)
unmoved among s id consent place (request.Get u) gone about none =
    let entry : Entry = record { id = id; consent = consent; place = place; request = request.Get u } in
    looked s entry (first_that_holds (rows_of s (request.Get u) id (asked_of consent))) (response_to s (request.Get u) id)

-- the uploads stay gone where a request is about others
gone_after : (among : ℕ → Bool) (s : State) (r : Request) (id : ℕ) → is_about among r id ≡ false → AreGone among s.content → AreGone among (after s r id (change_of s r id)).content
gone_after among s request.Options id other gone = gone
gone_after among s (request.Create new) id other gone = gone_inserted among s.content id (made_of new (first_bytes s.content new)) other gone
gone_after among s (request.Head u) id other gone = gone
gone_after among s (request.Patch p) id other gone =
    let found = map.get s.content p.id in
    change_cases p.id (λ change. AreGone among (after s (request.Patch p) id change).content) gone
    (λ c is. gone_extended among s.content p found other gone)
    (patch_declared p found) (length p.bytes)
gone_after among s (request.Delete u) id other gone = gone_removed among s.content u gone
gone_after among s (request.Get u) id other gone = gone

pub gone_one : (among : ℕ → Bool) (s : State) (entry : Entry) → is_about among entry.request entry.id ≡ false → AreGone among s.content → AreGone among (replayed_one s entry).content
gone_one among s entry other gone =
    let done : Done = record { response = response_to s entry.request entry.id; change = change_of s entry.request entry.id } in
    elim (first_that_holds (rows_of s entry.request entry.id (asked_of entry.consent))) as (λ o. AreGone among (carried s entry (unless o done)).content) [
      | None ↦ gone_after among s entry.request entry.id other gone
      | Some refused ↦ gone
    ]

ended_one : (among : ℕ → Bool) (s t : State) (entry : Entry) → IsWithoutEnded among s t → makes among entry.request entry.id ≡ false → IsWithoutEnded among (replayed_one s entry) (replayed_one t entry)
ended_one among s t entry e none =
    elim (is_about among entry.request entry.id) as (λ b. is_about among entry.request entry.id ≡ b → IsWithoutEnded among (replayed_one s entry) (replayed_one t entry)) [
      | true ↦ λ about.
          let first = unmoved among s entry.id entry.consent entry.place entry.request e.ended about none in
          let second = unmoved among t entry.id entry.consent entry.place entry.request e.without.gone about none in
          subst (λ x. IsWithoutEnded among x (replayed_one t entry)) (sym first) (subst (IsWithoutEnded among s) (sym second) e)
      | false ↦ λ other. record {
        without = both_one among s t e.without entry other (looks among s t entry.request entry.id e none);
        ended = gone_one among s entry other e.ended;
      }
    ] refl

pub ended_stay : EndedStayAlike
unfolding replayed
ended_stay among s t [] e none = e
ended_stay among s t (entry ∷ more) e none =
    let MakesNone : Entry → Type 0 = λ (x : Entry). makes among x.request x.id ≡ false in
    ended_stay among (replayed_one s entry) (replayed_one t entry) more
    (ended_one among s t entry e (All-head MakesNone entry more none))
    (All-tail MakesNone entry more none)
