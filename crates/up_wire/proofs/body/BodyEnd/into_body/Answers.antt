use Rattle.std.proofs.Common.{rules}
use Rattle.up_wire.proofs.body.BodyEnd.into_body.Goals as goal

pub returns-in-Ended : goal.returns-in-Ended
returns-in-Ended c = search rules
