use Rattle.std.proofs.Common.{arith}
use Rattle.std.proofs.lemmas.Grind.{common_steps}
use Rattle.up_wire.proofs.body.make_ready.Goals as goal

pub returns-then-is_enough-clause-ready : goal.returns-then-is_enough-clause-ready
returns-then-is_enough-clause-ready c = grind (arith, common_steps)

pub returns-then-not-make_room-clause-kept : goal.returns-then-not-make_room-clause-kept
returns-then-not-make_room-clause-kept c = grind (arith, common_steps)

pub returns-then-not-make_room-clause-within : goal.returns-then-not-make_room-clause-within
returns-then-not-make_room-clause-within c = grind (arith, common_steps)

pub returns-then-not-make_room-clause-none : goal.returns-then-not-make_room-clause-none
returns-then-not-make_room-clause-none c = grind (arith, common_steps)

pub returns-then-is_err-clause-kept : goal.returns-then-is_err-clause-kept
returns-then-is_err-clause-kept c = grind (arith, common_steps)

pub returns-then-is_err-clause-within : goal.returns-then-is_err-clause-within
returns-then-is_err-clause-within c = grind (arith, common_steps)

pub returns-then-is_err-clause-none : goal.returns-then-is_err-clause-none
returns-then-is_err-clause-none c = grind (arith, common_steps)

pub returns-clause-kept : goal.returns-clause-kept
returns-clause-kept c = grind (arith, common_steps)

pub returns-clause-within : goal.returns-clause-within
returns-clause-within c = grind (arith, common_steps)

pub returns-clause-ready : goal.returns-clause-ready
returns-clause-ready c = grind (arith, common_steps)
