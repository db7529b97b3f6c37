use Rattle.std.proofs.Common.{◌++◌, ◌∷◌, [], sym, ap, ◌∙◌, subst, arith}
use Rattle.std.specs.FinMap as map
use Rattle.up_events.specs.declared.event.Accepted.{Accepted}
use Rattle.up_machine.specs.State.{Contents, State}
use Rattle.up_events.specs.Records.{noted}
use Rattle.up_machine.specs.Decision.{new_content}
use Rattle.up_machine.specs.Fits.{Fits, IsSoundBook}
use Rattle.up_events.specs.declared.event.Accepted.TheVariants.{Created}
use Rattle.up_machine.proofs.FitsLemmas.{MayCreate, may_create, sound_after}
use Rattle.up_machine.proofs.DecisionLemmas.{refused_by}
use Rattle.up_machine.proofs.FreshLemmas.{fresh_after, stays_created}
use Rattle.up_machine.proofs.book.Book.create.Goals as goal

pub create-requires-clause-unused : goal.create-requires-clause-unused
create-requires-clause-unused c =
    let sound = subst IsSoundBook c.self.view_is c.self.invariant.sound in
    let may = may_create c.args.self.now c.args.new c.args.id c.args.asked.now c.in_ok-check_create.field-0 tt sound c.requires.bounded c.in_ok-check_create.ensures in
    (subst (λ (s : State). MayCreate s c.args.new c.args.id) (sym c.self.view_is) may).unused

pub create-requires-clause-small : goal.create-requires-clause-small
create-requires-clause-small c =
    let sound = subst IsSoundBook c.self.view_is c.self.invariant.sound in
    let may = may_create c.args.self.now c.args.new c.args.id c.args.asked.now c.in_ok-check_create.field-0 tt sound c.requires.bounded c.in_ok-check_create.ensures in
    omega (arith, (subst (λ (s : State). MayCreate s c.args.new c.args.id) (sym c.self.view_is) may).small)

pub create-requires-clause-follows : goal.create-requires-clause-follows
create-requires-clause-follows c =
    let sound = subst IsSoundBook c.self.view_is c.self.invariant.sound in
    let may = may_create c.args.self.now c.args.new c.args.id c.args.asked.now c.in_ok-check_create.field-0 tt sound c.requires.bounded c.in_ok-check_create.ensures in
    (subst (λ (s : State). MayCreate s c.args.new c.args.id) (sym c.self.view_is) may).follows

pub invariant_of-self-2 : goal.invariant_of-self-2
invariant_of-self-2 c =
    let sound = subst IsSoundBook c.self.view_is c.self.invariant.sound in
    let may = may_create c.args.self.now c.args.new c.args.id c.args.asked.now c.in_ok-check_create.field-0 tt sound c.requires.bounded c.in_ok-check_create.ensures in
    let here = subst (λ (s : State). MayCreate s c.args.new c.args.id) (sym c.self.view_is) may in
    let a = c.self.inside in
    let s : State = record { content = a.uploads; journal = a.journal; closed = a.closed; max_size = a.max_size } in
    let x = new_content s c.args.new in
    let noted_is = c.in_ok-change.ensures.noted ∙ ap (λ (change : Accepted). noted a.journal change) c.in_ok-change.ensures.change in
    record {
      sound = sound_after s (Created c.args.id x.length x.kind) c.create.new.self c.create.new.journal c.self.invariant.sound here.follows noted_is
          (subst (λ (m : Contents). Fits m (a.journal.accepted ++ Created c.args.id x.length x.kind ∷ [])) (sym c.in_ok-change.ensures.ok) here.fits);
      fresh = fresh_after a.uploads (map.insert a.uploads c.args.id x) c.create.new.self a.journal c.create.new.journal (Created c.args.id x.length x.kind) c.reserve.new.fresh
          (stays_created a.uploads a.journal.accepted (Created c.args.id x.length x.kind) c.args.id x here.follows.0) c.in_ok-change.ensures.ok noted_is
          (c.reserve.ensures a.uploads a.journal.accepted c.self.invariant.fresh);
    }

pub returns-in_err-check_create-clause-answer : goal.returns-in_err-check_create-clause-answer
returns-in_err-check_create-clause-answer c = refused_by _ _ _ c.in_err-check_create.field-0.0 c.from_residual.result c.from_residual.ensures.1 c.in_err-check_create.ensures
