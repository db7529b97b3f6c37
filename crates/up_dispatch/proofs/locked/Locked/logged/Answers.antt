use Rattle.std.proofs.Common.{List, rules, subst, true, ◌≡◌}
use Rattle.up_commits.specs.Follows.{IsBookAfter}
use Rattle.up_log.specs.declared.entry.Entry.{Entry}
use Rattle.up_dispatch.proofs.locked.Locked.logged.Goals as goal

pub returns : goal.returns
returns g c =
    let N = g.B.Naming in
    let inside = c.self.inside in
    let tied : inside.is_tied ≡ true = search rules in
    let same : inside.followed.entries ≡ c.args.entries.now = search rules in
    (inside.inside.book, subst (λ (before : List Entry). IsBookAfter N.lanes N.max_size before inside.inside.book) same (inside.followed.carried, c.self.invariant.0, c.self.invariant.1 tied), c.logged.ensures)
