use Rattle.std.proofs.Common.{rules}
use Rattle.up_store.proofs.shortening.turn_after.Goals as goal

pub returns-in-Err-Unknown-clause-over : goal.returns-in-Err-Unknown-clause-over
returns-in-Err-Unknown-clause-over g c = search rules
