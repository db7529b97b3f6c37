use Rattle.std.proofs.Common.{rules}
use Rattle.up_test_data.proofs.talks.comparison.compare.Goals as goal

pub returns-clause-twin : goal.returns-clause-twin
returns-clause-twin c = search rules
