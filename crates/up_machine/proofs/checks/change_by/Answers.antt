use Rattle.std.proofs.Common.{rules}
use Rattle.up_machine.proofs.checks.change_by.Goals as goal

pub returns-in-None : goal.returns-in-None
returns-in-None c = search rules

pub returns-in-None-2 : goal.returns-in-None-2
returns-in-None-2 c = search rules
