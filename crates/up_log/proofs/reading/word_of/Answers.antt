use Rattle.std.proofs.Common.{arith}
use Rattle.std.proofs.lemmas.Grind.{common_steps}
use Rattle.up_log.specs.Reading.{word_at}
use Rattle.up_log.proofs.reading.word_of.Goals as goal

pub returns-in_default-clause-exact : goal.returns-in_default-clause-exact
unfolding word_at
returns-in_default-clause-exact c = grind (arith, common_steps)

pub returns-in-len8-up-clause-exact : goal.returns-in-len8-up-clause-exact
unfolding word_at
returns-in-len8-up-clause-exact c = grind (arith, common_steps)
