use Rattle.std.proofs.Common.{rules}
use Rattle.up_wire.proofs.framing.framing_of.Goals as goal

pub returns-in-One-Absent : goal.returns-in-One-Absent
returns-in-One-Absent c = search rules
