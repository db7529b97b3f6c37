use Rattle.std.proofs.Common.{arith}
use Rattle.std.proofs.lemmas.Grind.{common_steps}
use Rattle.up_dispatch.proofs.parts.BoardParts.new.Goals as goal

pub loop-lane-preserved : goal.loop-lane-preserved
loop-lane-preserved c = grind (arith, common_steps)

pub returns-clause-lanes : goal.returns-clause-lanes
returns-clause-lanes c = grind (arith, common_steps)
