use Rattle.up_events.specs.Ended.{AreEmptyBuckets}
use Rattle.up_events.proofs.ended.empty_buckets.Given as goal

abbrev pub invariant-loop : goal.invariant-loop
invariant-loop l = AreEmptyBuckets l.counter l.buckets.items
