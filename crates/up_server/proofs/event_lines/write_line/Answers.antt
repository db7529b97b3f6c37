use Rattle.std.proofs.Common.{rules}
use Rattle.up_server.proofs.event_lines.write_line.Goals as goal

pub returns-in-Err-clause-written : goal.returns-in-Err-clause-written
returns-in-Err-clause-written g c = search rules
