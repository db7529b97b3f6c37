use Rattle.std.proofs.Common.{false, subst, sym}
use Rattle.up_commits.specs.Follows.{Following, IsBookOf}
use Rattle.up_dispatch.proofs.Tying.{ended, has_ended}
use Rattle.up_dispatch.proofs.locked.Locked.pass_over.Goals as goal

pub invariant_of-self : goal.invariant_of-self
invariant_of-self g c =
    let N = g.B.Naming in
    let inside = c.self.inside in
    let entry = c.args.entry.now in
    let follows = has_ended inside.followed _ _ entry false (c.begin.ensures.begun entry c.requires.claims) c.end.ensures in (
      ended inside.followed _ entry false c.self.invariant.0 follows,
      λ tied. subst (λ (f : Following). IsBookOf N.lanes N.max_size f inside.inside.book) (sym follows)
          (c.books_follow.ensures.passed N.lanes N.max_size inside.followed entry inside.inside.book c.self.invariant.0 (c.self.invariant.1 tied)),
    )
