use Rattle.up_events.proofs.EndedLemmas.{bucket_read, spread_after}
use Rattle.up_events.proofs.ended.Ended.insert.Goals as goal

pub invariant_of-self-2 : goal.invariant_of-self-2
invariant_of-self-2 c =
    let a = c.self.inside in
    let bucket = c.index_mut.result.now in
    let was = bucket_read a.all.items a.buckets.items c.args.id _ bucket c.self.invariant c.modulo.ensures c.index_mut.ensures.value in
    rw (c.push.ensures, c.modulo.ensures) (spread_after a.all.items a.buckets.items c.args.id bucket c.insert.new.self c.self.invariant was c.in_ok-insert.ensures.ok)
