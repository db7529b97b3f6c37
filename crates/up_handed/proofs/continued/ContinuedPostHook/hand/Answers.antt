use Rattle.std.proofs.Common.{arith, rules}
use Rattle.std.proofs.lemmas.Grind.{common_steps}
use Rattle.up_handed.proofs.continued.ContinuedPostHook.hand.Goals as goal

pub hand-outcome-requires-clause-room : goal.hand-outcome-requires-clause-room
hand-outcome-requires-clause-room g c = search rules

pub add-requires : goal.add-requires
add-requires g c = grind (arith, common_steps)

pub invariant_of-self-2 : goal.invariant_of-self-2
invariant_of-self-2 g c = grind (arith, common_steps)
