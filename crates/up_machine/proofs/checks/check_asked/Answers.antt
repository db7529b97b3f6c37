use Rattle.std.proofs.Common.{rules}
use Rattle.up_machine.proofs.checks.check_asked.Goals as goal

pub returns-in-Skipped-2 : goal.returns-in-Skipped-2
returns-in-Skipped-2 c = search rules
