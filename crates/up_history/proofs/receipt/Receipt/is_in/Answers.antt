use Rattle.up_history.proofs.Meeting.{stands}
use Rattle.up_history.proofs.receipt.Receipt.is_in.Goals as goal

pub returns-clause-there : goal.returns-clause-there
returns-clause-there g c = rw (← c.self.view_is) (λ long. stands c.self.inside.front c.args.front.now c.self.inside.number c.meets.ensures.alike c.self.invariant long)
