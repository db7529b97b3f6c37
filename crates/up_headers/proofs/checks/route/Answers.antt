use Rattle.std.proofs.Common.{◌≡◌, ℕ, ◌∙◌, Option, Result, Ok, Err, IsErrAnd, ap, subst, inl, inr}
use Rattle.up_headers.specs.declared.request.Request.{Request}
use Rattle.up_headers.specs.declared.header_fault.HeaderFault.{HeaderFault}
use Rattle.up_headers.specs.declared.place.Place.TheVariants.{Creation, Upload, Nowhere}
use Rattle.up_headers.specs.Places.{IsAt}
use Rattle.up_headers.specs.Steps.{IsFound}
use Rattle.up_headers.specs.Table.{IsAnswerAt}
use Rattle.up_headers.proofs.checks.route.Goals as goal

-- what a `?` returns, by its fault
is_fault : (result : Result Request HeaderFault) (found : HeaderFault) → IsErrAnd result (λ (f : HeaderFault). f ≡ found) → result ≡ Err found
is_fault (Ok request) found is = absurd is
is_fault (Err f) found is = ap Err is

-- the place that was found is the witness
pub returns-in_err-id-clause-answer : goal.returns-in_err-id-clause-answer
returns-in_err-id-clause-answer c =
    let same = is_fault _ _ c.from_residual.ensures.1 in
    elim c.in_err-id.ensures [
      | inl none ↦ inl (same ∙ ap Err none)
      | inr nowhere ↦ inr (Nowhere, subst (λ t. IsAt t Nowhere) c.as_slice.ensures nowhere.1, same ∙ ap Err nowhere.0)
    ]

pub returns-in-Some-clause-answer : goal.returns-in-Some-clause-answer
returns-in-Some-clause-answer c =
    let found = subst (λ (f : Option ℕ). IsFound c.as_slice.result.now (Ok f)) c.in-Some.is c.in_ok-id.ensures in
    elim (c.at_upload.ensures.answer c.args.max_size) [
      | inl none ↦ inl none
      | inr told ↦ inr (Upload c.in-Some.id, subst (λ t. IsAt t (Upload c.in-Some.id)) c.as_slice.ensures found, told)
    ]

pub returns-in-Some-clause-bounded : goal.returns-in-Some-clause-bounded
returns-in-Some-clause-bounded c = c.at_upload.ensures.bounded c.args.max_size

pub returns-in-None-clause-answer : goal.returns-in-None-clause-answer
returns-in-None-clause-answer c =
    let m = c.args.message in
    let found = subst (λ (f : Option ℕ). IsFound c.as_slice.result.now (Ok f)) c.in-None.is c.in_ok-id.ensures in
    elim (c.at_creation.ensures.answer m.body) [
      | inl none ↦ inl none
      | inr told ↦ inr (
        Creation,
        subst (λ t. IsAt t Creation) c.as_slice.ensures found,
        subst (λ f. IsAnswerAt c.args.verb Creation f m.body c.args.max_size c.at_creation.result) c.as_slice-in-None.ensures told,
      )
    ]
