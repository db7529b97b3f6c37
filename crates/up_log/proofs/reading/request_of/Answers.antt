use Rattle.std.proofs.Common.{arith}
use Rattle.std.proofs.lemmas.Grind.{common_steps}
use Rattle.up_log.specs.Reading.{asked_for_at}
use Rattle.up_log.proofs.reading.request_of.Goals as goal

pub returns-in_err-new-in-1 : goal.returns-in_err-new-in-1
unfolding asked_for_at
returns-in_err-new-in-1 g c = grind (arith, common_steps)

pub returns-in_err-number-in-2 : goal.returns-in_err-number-in-2
unfolding asked_for_at
returns-in_err-number-in-2 g c = grind (arith, common_steps)

pub returns-in_err-patch-in-3 : goal.returns-in_err-patch-in-3
unfolding asked_for_at
returns-in_err-patch-in-3 g c = grind (arith, common_steps)

pub returns-in_err-number-in-4 : goal.returns-in_err-number-in-4
unfolding asked_for_at
returns-in_err-number-in-4 g c = grind (arith, common_steps)

pub returns-in_err-number-in-5 : goal.returns-in_err-number-in-5
unfolding asked_for_at
returns-in_err-number-in-5 g c = grind (arith, common_steps)

pub returns-in_ok-new-in-1 : goal.returns-in_ok-new-in-1
unfolding asked_for_at
returns-in_ok-new-in-1 g c = grind (arith, common_steps)

pub returns-in_ok-number-in-2 : goal.returns-in_ok-number-in-2
unfolding asked_for_at
returns-in_ok-number-in-2 g c = grind (arith, common_steps)

pub returns-in_ok-patch-in-3 : goal.returns-in_ok-patch-in-3
unfolding asked_for_at
returns-in_ok-patch-in-3 g c = grind (arith, common_steps)

pub returns-in_ok-number-in-4 : goal.returns-in_ok-number-in-4
unfolding asked_for_at
returns-in_ok-number-in-4 g c = grind (arith, common_steps)

pub returns-in_ok-number-in-5 : goal.returns-in_ok-number-in-5
unfolding asked_for_at
returns-in_ok-number-in-5 g c = grind (arith, common_steps)

pub returns-in_err-patch-in-6 : goal.returns-in_err-patch-in-6
unfolding asked_for_at
returns-in_err-patch-in-6 g c = grind (arith, common_steps)

pub returns-in_ok-patch-in-6 : goal.returns-in_ok-patch-in-6
unfolding asked_for_at
returns-in_ok-patch-in-6 g c = grind (arith, common_steps)

pub returns-in_default : goal.returns-in_default
unfolding asked_for_at
returns-in_default g c = grind (arith, common_steps)
