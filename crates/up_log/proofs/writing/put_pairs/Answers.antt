use Rattle.std.proofs.Common.{arith}
use Rattle.std.proofs.lemmas.Grind.{common_steps}
use Rattle.up_log.proofs.writing.put_pairs.Goals as goal

pub loop-both-preserved : goal.loop-both-preserved
loop-both-preserved c = grind (arith, common_steps)

pub returns : goal.returns
returns c = grind (arith, common_steps)
