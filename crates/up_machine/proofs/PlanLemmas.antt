-- What refuses the plan of a request refuses the request.
use Rattle.std.proofs.Common.{◌≡◌, ℕ, false, Option, Some, None, Err, [], ◌∷◌, ◌++◌, ap}
use Rattle.std.specs.FinMap as map
use Rattle.up_events.specs.History.{is_known}
use Rattle.up_machine.specs.Content.{is_complete}
use Rattle.up_headers.specs.Rows.{first_that_holds}
use Rattle.up_headers.specs.declared.request.Request.{Request}
use Rattle.up_headers.specs.declared.request.Request.TheVariants as request
use Rattle.up_machine.specs.Decision.{asked_rows, change_of, new_content, patch_completes, plan_of, planned_rows, response_to, rows_of, unless}
use Rattle.up_machine.proofs.DecisionLemmas.{found_before}
use Rattle.up_machine.specs.Plans.{RefusalsAreKept}
use Rattle.up_machine.specs.State.{State}
use Rattle.up_machine.specs.declared.plan.Asked.{Asked}
use Rattle.up_machine.specs.declared.plan.Done.{Done}
use Rattle.up_machine.specs.declared.refusal.Refusal.{Refusal}
use Rattle.up_machine.specs.declared.refusal.Refusal.TheVariants as refusal

found_at_commit : (s : State) (asks : Request) (id : ℕ) (asked : Asked) (r : Refusal) → first_that_holds (planned_rows s asks) ≡ Some r → first_that_holds (rows_of s asks id asked) ≡ Some r
found_at_commit s request.Options id asked r e = e
found_at_commit s (request.Create new) id asked r e =
    let planned = planned_rows s (request.Create new) in
    let said = asked_rows (is_complete (new_content s new)) asked in
    found_before (planned ++ said) ((is_known s.journal.accepted id, refusal.IdTaken) ∷ []) r (found_before planned said r e)
found_at_commit s (request.Head u) id asked r e = e
found_at_commit s (request.Patch p) id asked r e = found_before (planned_rows s (request.Patch p)) (asked_rows (patch_completes p (map.get s.content p.id)) asked) r e
found_at_commit s (request.Delete u) id asked r e = found_before (planned_rows s (request.Delete u)) (asked_rows false asked) r e
found_at_commit s (request.Get u) id asked r e = e

refusal_of : {T : Type 0} (o : Option Refusal) (x : T) (r : Refusal) → unless o x ≡ Err r → o ≡ Some r
refusal_of None x r e = absurd (cc)
refusal_of (Some found) x r e = let h : found ≡ r = cc in ap Some h

pub refusals_kept : RefusalsAreKept
refusals_kept s asks id asked r e =
    let done : Done = record { response = response_to s asks id; change = change_of s asks id } in
    ap (λ o. unless o done) (found_at_commit s asks id asked r (refusal_of (first_that_holds (planned_rows s asks)) (plan_of s asks) r e))
