use Rattle.std.proofs.Common.{not, List, subst, sym}
use Rattle.up_commits.specs.Follows.{Following, IsBookAfter, IsBookOf}
use Rattle.up_log.specs.declared.entry.Entry.{Entry}
use Rattle.up_machine.specs.Decision.{IsExpectedOrNoMemory, decide}
use Rattle.up_machine.specs.declared.plan.Asked.{Asked}
use Rattle.up_dispatch.proofs.Tying.{ended, has_ended, tied_on}
use Rattle.up_dispatch.proofs.locked.Locked.carry_out.Goals as goal

pub invariant_of-self : goal.invariant_of-self
invariant_of-self g c =
    let N = g.B.Naming in
    let inside = c.self.inside in
    let entry = c.args.entry in
    let done = c.commit-result in
    let wants = c.wants_memory-is_carried in
    let whole = c.self.invariant.0 in
    let going = rw (← c.self.view_is) at c.requires.going in
    let answer = subst (λ (asked : Asked). IsExpectedOrNoMemory done.result.0 (decide inside.inside.book entry.request entry.id asked)) c.asked_of.ensures done.ensures.answer in
    let follows = has_ended inside.followed _ _ entry (not wants.result) (c.begin.ensures.begun entry c.requires.claims) c.end.ensures in (
      ended inside.followed _ entry (not wants.result) whole follows,
      λ tied. subst (λ (f : Following). IsBookOf N.lanes N.max_size f done.new.self.book) (sym follows)
          (tied_on c.books_follow.ensures.carried c.books_follow.ensures.passed N.lanes N.max_size inside.followed inside.inside done.new.self c.args.seat.now done.new.seat entry done.result.0 wants.result
          whole (c.self.invariant.1 tied) going answer done.ensures.leaves wants.ensures.0 wants.ensures.1),
    )

pub returns-clause-after : goal.returns-clause-after
returns-clause-after g c =
    let N = g.B.Naming in
    let inside = c.self.inside in
    let tied = rw (← c.self.view_is) at c.requires.tied in
    rw (← c.self.view_is) (subst (λ (before : List Entry). IsBookAfter N.lanes N.max_size before inside.inside.book) c.begin.ensures.before
    (inside.followed.carried, c.self.invariant.0, c.self.invariant.1 tied))
