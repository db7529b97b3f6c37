use Rattle.std.proofs.Common.{rules}
use Rattle.up_dispatch.proofs.keeper.SeatedKeeper.commit.Goals as goal

pub returns-clause-commit : goal.returns-clause-commit
returns-clause-commit g c = search rules
