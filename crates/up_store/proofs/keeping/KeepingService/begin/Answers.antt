use Rattle.std.proofs.Common.{List, subst, sym}
use Rattle.up_dispatch.specs.Lists.{EachAt}
use Rattle.up_handed.specs.declared.counted.Counted.{Counted}
use Rattle.up_store.specs.Permits.{HasCounted}
use Rattle.up_store.proofs.keeping.KeepingService.begin.Goals as goal

pub restore-requires : goal.restore-requires
restore-requires g c = record { same = sym c.requires.same }

pub give-requires : goal.give-requires
give-requires g c =
    let N = g.B.Naming in
    record { counted = subst (λ (events : List Counted). EachAt (HasCounted N.lanes N.max_size c.in-Ok.logs.changes.entries) events) c.counted.ensures c.in-Ok.ensures.counted }

pub returns-in-Ok : goal.returns-in-Ok
returns-in-Ok g c =
    let N = g.B.Naming in
    let entries = c.in-Ok.logs.changes.entries in
    record { counted = λ ready. (entries, subst (λ (events : List Counted). EachAt (HasCounted N.lanes N.max_size entries) events) c.counted.ensures c.in-Ok.ensures.counted) }
