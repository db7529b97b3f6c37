use Rattle.std.proofs.Common.{arith}
use Rattle.std.proofs.lemmas.Grind.{common_steps}
use Rattle.up_log.proofs.writing.put_ids.Goals as goal

pub loop-upload-preserved : goal.loop-upload-preserved
loop-upload-preserved c = grind (arith, common_steps)

pub returns : goal.returns
returns c = grind (arith, common_steps)
