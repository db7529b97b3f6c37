use Rattle.std.proofs.Common.{rules}
use Rattle.up_store.proofs.restoring.take_in.Goals as goal

pub returns-clause-carried : goal.returns-clause-carried
returns-clause-carried g c = search rules
