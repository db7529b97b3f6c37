use Rattle.std.proofs.Common.{rules}
use Rattle.up_dispatch.proofs.answering.carry_out.Goals as goal

pub returns-in_default : goal.returns-in_default
returns-in_default g c = search rules
