use Rattle.std.proofs.Common.{subst}
use Rattle.up_machine.specs.Fresh.{AreFresh}
use Rattle.up_machine.proofs.fresh.reserve.Goals as goal

pub returns-in-Some : goal.returns-in-Some
returns-in-Some c = λ content changes are. c.make_room.ensures content changes (subst (AreFresh content changes) c.in-Some.is are)
