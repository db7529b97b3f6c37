use Rattle.std.proofs.Common.{arith}
use Rattle.std.proofs.lemmas.Grind.{common_steps}
use Rattle.up_wire.proofs.device.Source.take_into.Goals as goal

pub returns-in-Byte-clause-bytes : goal.returns-in-Byte-clause-bytes
returns-in-Byte-clause-bytes g c = grind (arith, common_steps)
