use Rattle.std.proofs.Common.{rules}
use Rattle.up_wire.proofs.tape.TapeSource.next_byte.Goals as goal

pub returns-clause-answer : goal.returns-clause-answer
returns-clause-answer c = search rules
