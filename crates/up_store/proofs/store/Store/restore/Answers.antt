use Rattle.std.proofs.Common.{List, rules, subst}
use Rattle.up_dispatch.specs.Lists.{EachAt}
use Rattle.up_log.specs.declared.entry.Entry.{Entry}
use Rattle.up_store.specs.Permits.{HasCounted}
use Rattle.up_store.proofs.store.Store.restore.Goals as goal

pub returns-clause-counted : goal.returns-clause-counted
returns-clause-counted g c =
    let N = g.B.Naming in
    subst (λ (xs : List Entry). EachAt (HasCounted N.lanes N.max_size xs) c.args.least.now.events.now) (search rules) c.in_ok-check.ensures.counted
