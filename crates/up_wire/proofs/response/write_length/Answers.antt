use Rattle.std.proofs.Common.{arith}
use Rattle.std.proofs.lemmas.Grind.{common_steps}
use Rattle.up_wire.proofs.response.write_length.Goals as goal

pub returns : goal.returns
returns g c = grind (arith, common_steps)

pub returns-then-bare : goal.returns-then-bare
returns-then-bare g c = grind (arith, common_steps)
