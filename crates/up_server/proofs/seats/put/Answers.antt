use Rattle.std.proofs.Common.{rules}
use Rattle.up_server.proofs.seats.put.Goals as goal

pub returns-then-len-capacity : goal.returns-then-len-capacity
returns-then-len-capacity g c = search rules
