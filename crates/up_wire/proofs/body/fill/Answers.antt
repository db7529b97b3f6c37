use Rattle.std.proofs.Common.{arith}
use Rattle.std.proofs.lemmas.Grind.{common_steps}
use Rattle.up_wire.proofs.Places.{take_behind}
use Rattle.up_wire.proofs.body.fill.Goals as goal

pub returns : goal.returns
returns g c = grind (arith, common_steps, take_behind)
