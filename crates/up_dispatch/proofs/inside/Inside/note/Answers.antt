use Rattle.std.proofs.Common.{◌≡◌, ◌+◌, arith, ap, subst, rules}
use Rattle.std.proofs.lemmas.Grind.{common_steps}
use mir.Val.{bool_byte}
use Rattle.up_dispatch.specs.Commits.{changed}
use Rattle.up_dispatch.specs.BoardView.{IsLawfulBoard}
use Rattle.up_dispatch.proofs.Moves.{lawful_after, changed_is, open_if}
use Rattle.up_dispatch.proofs.inside.Inside.note.Goals as goal

pub invariant_of-self-2 : goal.invariant_of-self-2
invariant_of-self-2 g c =
    let inside = c.self.inside in
    let done = c.in_ok-done.done in
    let lawful = lawful_after g.B.Naming.queue g.B.Naming.lanes g.B.Naming.max_size inside.book c.commit.new.self c.args.request c.args.id done.change inside.cursors.items inside.given inside.total.total inside.rest.parts inside.rest.amount c.self.invariant
    (open_if inside.book done.change c.in_ok-done.ensures.open) c.journal.ensures.sound c.in_ok-done.ensures.ok in
    let count : inside.total.total + changed done.change ≡ c.add.new.self.total = omega (arith, c.add.ensures.total, c.audit.ensures.total, changed_is done.change, c.from-changes.ensures, ap bool_byte c.is_some.ensures) in
    subst (λ n. IsLawfulBoard g.B.Naming.queue g.B.Naming.lanes g.B.Naming.max_size c.commit.new.self inside.cursors.items inside.given n inside.rest.parts inside.rest.amount) count lawful

pub overflow_add-count : goal.overflow_add-count
overflow_add-count g c = grind (arith, common_steps)

pub returns-in_err-done-clause-answer : goal.returns-in_err-done-clause-answer
returns-in_err-done-clause-answer g c = search rules

pub returns-clause-answer : goal.returns-clause-answer
returns-clause-answer g c = search rules

pub returns-clause-ok : goal.returns-clause-ok
returns-clause-ok g c = search rules
