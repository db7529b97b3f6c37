use Rattle.std.proofs.Common.{arith}
use Rattle.std.proofs.lemmas.Grind.{common_steps}
use Rattle.up_compact.proofs.writing.add_staying.Goals as goal

pub returns-clause-added : goal.returns-clause-added
returns-clause-added c = grind (arith, common_steps)

pub returns-clause-stayed : goal.returns-clause-stayed
returns-clause-stayed c = grind (arith, common_steps)
