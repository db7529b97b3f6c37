use Rattle.std.proofs.Common.{sym, subst}
use Rattle.up_events.specs.Ended.{AreSpread}
use Rattle.up_events.proofs.EndedLemmas.{spread_empty}
use Rattle.up_events.proofs.ended.Ended.empty.Goals as goal

pub invariant_of-result : goal.invariant_of-result
invariant_of-result c =
    let buckets = c.in_ok-empty_buckets.field-0.items in
    subst (λ ids. AreSpread ids buckets) (sym c.new.ensures) (spread_empty buckets c.in_ok-empty_buckets.ensures)
