use Rattle.std.proofs.Common.{arith}
use Rattle.std.proofs.lemmas.Grind.{common_steps}
use Rattle.up_log.proofs.staging.stage.Goals as goal

pub returns-then-is_ok-clause-whole : goal.returns-then-is_ok-clause-whole
returns-then-is_ok-clause-whole g c = grind (arith, common_steps)

pub returns-then-is_ok-clause-synced : goal.returns-then-is_ok-clause-synced
returns-then-is_ok-clause-synced g c = grind (arith, common_steps)

pub returns-then-is_ok-clause-settled : goal.returns-then-is_ok-clause-settled
returns-then-is_ok-clause-settled g c = grind (arith, common_steps)

pub returns-then-is_ok-clause-fault : goal.returns-then-is_ok-clause-fault
returns-then-is_ok-clause-fault g c = grind (arith, common_steps)

pub returns-then-is_ok-clause-memory : goal.returns-then-is_ok-clause-memory
returns-then-is_ok-clause-memory g c = grind (arith, common_steps)

pub returns-else-is_ok-clause-whole : goal.returns-else-is_ok-clause-whole
returns-else-is_ok-clause-whole g c = grind (arith, common_steps)

pub returns-else-is_ok-clause-synced : goal.returns-else-is_ok-clause-synced
returns-else-is_ok-clause-synced g c = grind (arith, common_steps)

pub returns-else-is_ok-clause-settled : goal.returns-else-is_ok-clause-settled
returns-else-is_ok-clause-settled g c = grind (arith, common_steps)

pub returns-else-is_ok-clause-fault : goal.returns-else-is_ok-clause-fault
returns-else-is_ok-clause-fault g c = grind (arith, common_steps)

pub returns-else-is_ok-clause-memory : goal.returns-else-is_ok-clause-memory
returns-else-is_ok-clause-memory g c = grind (arith, common_steps)
