use Rattle.std.proofs.Common.{[], ap, length, subst, sym, ◌∙◌}
use Rattle.up_commits.specs.Follows.{Following, following, IsBookOf}
use Rattle.up_machine.specs.State.{State}
use Rattle.up_dispatch.proofs.locked.Locked.new.Goals as goal

pub invariant_of-result : goal.invariant_of-result
invariant_of-result g c =
    let N = g.B.Naming in
    let book = c.args.inside.book in (
      ap (λ (f : Following). length f.carried) c.new.ensures ∙ sym (ap (λ (f : Following). length f.entries) c.new.ensures),
      λ tied. subst (λ (f : Following). IsBookOf N.lanes N.max_size f book) (sym c.new.ensures)
          (subst (λ (s : State). IsBookOf N.lanes N.max_size (following [] []) s) (sym c.requires.new.1) (c.books_follow.ensures.new c.requires.new.0 N.lanes N.max_size)),
    )
