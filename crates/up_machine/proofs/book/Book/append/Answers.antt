use Rattle.std.proofs.Common.{◌≡◌, Ok, Some, [], ◌∷◌, ◌++◌, length, refl, sym, ap, ◌∙◌, subst, rules}
use Rattle.std.specs.FinMap as map
use Rattle.up_headers.specs.Rows.{first_that_holds}
use Rattle.up_headers.specs.declared.request.Request.TheVariants as request
use Rattle.up_machine.specs.Decision.{IsExpectedOrNoMemory, change_by, decide, rows_of}
use Rattle.up_machine.specs.Fits.{Fits}
use Rattle.up_machine.specs.Responses.{reached_offset}
use Rattle.up_machine.specs.State.{Contents, State, after, extended}
use Rattle.up_machine.proofs.DecisionLemmas.{decided, refused_by}
use Rattle.up_machine.proofs.FitsLemmas.{patch_takes, sound_after}
use Rattle.up_machine.proofs.FreshLemmas.{fresh_after, stays_patched}
use Rattle.up_machine.proofs.book.Book.append.Goals as goal

pub append-requires-clause-room : goal.append-requires-clause-room
append-requires-clause-room c =
    let a = c.self.inside in
    let p = c.args.patch.now in
    let s : State = record { content = a.uploads; journal = a.journal; closed = a.closed; max_size = a.max_size } in
    let made : change_by p.id c.in_ok-step.step.declared (length p.bytes) ≡ Some c.in-Some.change = ap (change_by p.id c.in_ok-step.step.declared) (sym c.len-count.ensures) ∙ sym c.change_by.ensures ∙ c.in-Some.is in
    let takes = patch_takes s p c.args.asked.now c.in_ok-step.step c.in-Some.change c.self.invariant.sound c.in_ok-step.ensures made in
    takes.room

pub append-requires-clause-follows : goal.append-requires-clause-follows
append-requires-clause-follows c =
    let a = c.self.inside in
    let p = c.args.patch.now in
    let s : State = record { content = a.uploads; journal = a.journal; closed = a.closed; max_size = a.max_size } in
    let made : change_by p.id c.in_ok-step.step.declared (length p.bytes) ≡ Some c.in-Some.change = ap (change_by p.id c.in_ok-step.step.declared) (sym c.len-count.ensures) ∙ sym c.change_by.ensures ∙ c.in-Some.is in
    let takes = patch_takes s p c.args.asked.now c.in_ok-step.step c.in-Some.change c.self.invariant.sound c.in_ok-step.ensures made in
    takes.can

pub invariant_of-self-2 : goal.invariant_of-self-2
invariant_of-self-2 c =
    let a = c.self.inside in
    let p = c.args.patch.now in
    let s : State = record { content = a.uploads; journal = a.journal; closed = a.closed; max_size = a.max_size } in
    let made : change_by p.id c.in_ok-step.step.declared (length p.bytes) ≡ Some c.in-Some.change = ap (change_by p.id c.in_ok-step.step.declared) (sym c.len-count.ensures) ∙ sym c.change_by.ensures ∙ c.in-Some.is in
    let takes = patch_takes s p c.args.asked.now c.in_ok-step.step c.in-Some.change c.self.invariant.sound c.in_ok-step.ensures made in
    let put = takes.next c.append.new.self c.in_ok-append.ensures.ok in
    record {
      sound = sound_after s c.in-Some.change c.append.new.self c.append.new.journal c.self.invariant.sound takes.can c.in_ok-append.ensures.noted
          (subst (λ (m : Contents). Fits m (a.journal.accepted ++ c.in-Some.change ∷ [])) (sym put) takes.fits);
      fresh = fresh_after a.uploads (extended a.uploads p (map.get a.uploads p.id)) c.append.new.self a.journal c.append.new.journal c.in-Some.change a.fresh
          (stays_patched a.uploads a.journal.accepted c.in-Some.change p (map.get a.uploads p.id) refl) put c.in_ok-append.ensures.noted c.self.invariant.fresh;
    }

pub returns-in_err-step-clause-answer : goal.returns-in_err-step-clause-answer
returns-in_err-step-clause-answer c =
    let a = c.self.inside in
    let p = c.args.patch.now in
    let s : State = record { content = a.uploads; journal = a.journal; closed = a.closed; max_size = a.max_size } in
    subst (λ (t : State). IsExpectedOrNoMemory c.from_residual.result (decide t (request.Patch p) 0 c.args.asked.now)) c.self.view_is
    (refused_by (first_that_holds (rows_of s (request.Patch p) 0 c.args.asked.now)) _ _ c.in_err-step.field-0.0 c.from_residual.result c.from_residual.ensures.1 c.in_err-step.ensures)

pub returns-in_err-response-clause-answer : goal.returns-in_err-response-clause-answer
returns-in_err-response-clause-answer c =
    let a = c.self.inside in
    let p = c.args.patch.now in
    let s : State = record { content = a.uploads; journal = a.journal; closed = a.closed; max_size = a.max_size } in
    let is = subst (λ (t : State). decide t (request.Patch p) 0 c.args.asked.now ≡ Ok (record { response = reached_offset c.in_ok-step.step.offset; change = change_by p.id c.in_ok-step.step.declared (length p.bytes) })) c.self.view_is (decided s p c.args.asked.now c.in_ok-step.step c.in_ok-step.ensures) in
    rw is (search rules)

pub returns-in_default-clause-answer : goal.returns-in_default-clause-answer
returns-in_default-clause-answer c =
    let a = c.self.inside in
    let p = c.args.patch.now in
    let s : State = record { content = a.uploads; journal = a.journal; closed = a.closed; max_size = a.max_size } in
    let is = subst (λ (t : State). decide t (request.Patch p) 0 c.args.asked.now ≡ Ok (record { response = reached_offset c.in_ok-step.step.offset; change = change_by p.id c.in_ok-step.step.declared (length p.bytes) })) c.self.view_is (decided s p c.args.asked.now c.in_ok-step.step c.in_ok-step.ensures) in
    rw is (search rules)

pub returns-in_err-append-clause-answer : goal.returns-in_err-append-clause-answer
returns-in_err-append-clause-answer c =
    let a = c.self.inside in
    let p = c.args.patch.now in
    let s : State = record { content = a.uploads; journal = a.journal; closed = a.closed; max_size = a.max_size } in
    let is = subst (λ (t : State). decide t (request.Patch p) 0 c.args.asked.now ≡ Ok (record { response = reached_offset c.in_ok-step.step.offset; change = change_by p.id c.in_ok-step.step.declared (length p.bytes) })) c.self.view_is (decided s p c.args.asked.now c.in_ok-step.step c.in_ok-step.ensures) in
    rw is (search rules)

pub returns-clause-answer : goal.returns-clause-answer
returns-clause-answer c =
    let a = c.self.inside in
    let p = c.args.patch.now in
    let s : State = record { content = a.uploads; journal = a.journal; closed = a.closed; max_size = a.max_size } in
    let is = subst (λ (t : State). decide t (request.Patch p) 0 c.args.asked.now ≡ Ok (record { response = reached_offset c.in_ok-step.step.offset; change = change_by p.id c.in_ok-step.step.declared (length p.bytes) })) c.self.view_is (decided s p c.args.asked.now c.in_ok-step.step c.in_ok-step.ensures) in
    rw is (search rules)

pub returns-clause-ok : goal.returns-clause-ok
returns-clause-ok c =
    let a = c.self.inside in
    let p = c.args.patch.now in
    let s : State = record { content = a.uploads; journal = a.journal; closed = a.closed; max_size = a.max_size } in
    let made : change_by p.id c.in_ok-step.step.declared (length p.bytes) ≡ Some c.in-Some.change = ap (change_by p.id c.in_ok-step.step.declared) (sym c.len-count.ensures) ∙ sym c.change_by.ensures ∙ c.in-Some.is in
    let takes = patch_takes s p c.args.asked.now c.in_ok-step.step c.in-Some.change c.self.invariant.sound c.in_ok-step.ensures made in
    let put = takes.next c.append.new.self c.in_ok-append.ensures.ok in
    let change : c.change_by-change.result ≡ Some c.in-Some.change = c.change_by-change.ensures ∙ sym c.change_by.ensures ∙ c.in-Some.is in
    let new : State = record { content = c.append.new.self; journal = c.append.new.journal; closed = a.closed; max_size = a.max_size } in
    let done : new ≡ after s (request.Patch p) 0 (Some c.in-Some.change) = rw (put, c.in_ok-append.ensures.noted) refl in
    subst (λ (t : State). new ≡ after t (request.Patch p) 0 c.change_by-change.result) c.self.view_is (done ∙ ap (after s (request.Patch p) 0) (sym change))
