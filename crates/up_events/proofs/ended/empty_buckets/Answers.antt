use Rattle.std.proofs.Common.{arith}
use Rattle.std.proofs.lemmas.Grind.{elements}
use Rattle.up_events.proofs.ended.empty_buckets.Goals as goal

pub loop-preserved : goal.loop-preserved
loop-preserved c = grind (arith, elements)
