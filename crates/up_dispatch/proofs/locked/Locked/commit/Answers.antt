use Rattle.std.proofs.Common.{sym, ◌∙◌, subst}
use Rattle.up_commits.specs.Follows.{IsBookOf}
use Rattle.up_machine.specs.State.{State}
use Rattle.up_dispatch.proofs.Tying.{undone}
use Rattle.up_dispatch.proofs.locked.Locked.commit.Goals as goal
use Rattle.up_dispatch.proofs.locked.Locked.commit.Goals.{then-self, else-self}

pub invariant_of-self : goal.invariant_of-self
invariant_of-self g c =
    let N = g.B.Naming in
    let inside = c.self.inside in
    let done = c.commit-result in (
      c.self.invariant.0,
      λ tied. elim c.if-self.branch [
        | then-self w ↦ subst (λ (s : State). IsBookOf N.lanes N.max_size inside.followed s)
            (sym (undone inside.inside done.new.self c.args.seat.now done.new.seat c.args.request c.args.id done.result.0 done.ensures.leaves (sym w.is_err-self-inside.ensures.value ∙ (sym w.self-is ∙ tied))))
            (c.self.invariant.1 w.if-self.true)
        | else-self w ↦ absurd (cc (w.self-is, tied))
      ],
    )
