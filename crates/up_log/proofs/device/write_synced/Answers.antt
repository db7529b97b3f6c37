use Rattle.std.proofs.Common.{arith}
use Rattle.std.proofs.lemmas.Grind.{common_steps}
use Rattle.up_log.proofs.device.write_synced.Goals as goal

pub returns-then-not-may_be_used-clause-others : goal.returns-then-not-may_be_used-clause-others
returns-then-not-may_be_used-clause-others g c = grind (arith, common_steps)

pub returns-then-not-may_be_used-clause-crash : goal.returns-then-not-may_be_used-clause-crash
returns-then-not-may_be_used-clause-crash g c = grind (arith, common_steps)

pub returns-in_err-write_at-clause-others : goal.returns-in_err-write_at-clause-others
returns-in_err-write_at-clause-others g c = grind (arith, common_steps)

pub returns-in_err-write_at-clause-crash : goal.returns-in_err-write_at-clause-crash
returns-in_err-write_at-clause-crash g c = grind (arith, common_steps)

pub returns-clause-others : goal.returns-clause-others
returns-clause-others g c = grind (arith, common_steps)

pub returns-clause-crash : goal.returns-clause-crash
returns-clause-crash g c = grind (arith, common_steps)

pub returns-clause-written : goal.returns-clause-written
returns-clause-written g c = grind (arith, common_steps)
