use Rattle.std.proofs.Common.{rules}
use Rattle.up_wire.proofs.output.OutputSink.flush.Goals as goal

pub returns-in-Ok-clause-failed : goal.returns-in-Ok-clause-failed
returns-in-Ok-clause-failed g c = search rules
