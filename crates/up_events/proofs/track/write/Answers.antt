use Rattle.std.proofs.Common.{arith, rules}
use Rattle.std.proofs.lemmas.Grind.{common_steps}
use Rattle.up_events.proofs.track.write.Goals as goal

pub returns-then-completing-clause-accepted : goal.returns-then-completing-clause-accepted
returns-then-completing-clause-accepted c = search rules

pub returns-else-completing-clause-accepted : goal.returns-else-completing-clause-accepted
returns-else-completing-clause-accepted c = search rules

pub returns-else-completing-clause-log : goal.returns-else-completing-clause-log
returns-else-completing-clause-log c = search rules

pub returns-else-completing-clause-count : goal.returns-else-completing-clause-count
returns-else-completing-clause-count c = search rules

pub returns-then-completing-clause-log : goal.returns-then-completing-clause-log
returns-then-completing-clause-log c = grind (arith, common_steps)
