use Rattle.std.proofs.Common.{rules}
use Rattle.up_server.proofs.run_outcome.report_outcome.Goals as goal

pub returns-in-Ok : goal.returns-in-Ok
returns-in-Ok g c = search rules

pub returns-in-Ok-2 : goal.returns-in-Ok-2
returns-in-Ok-2 g c = search rules
