use Rattle.up_machine.proofs.FinishLemmas.{completing_tells, finish_allowed}
use Rattle.up_machine.proofs.law.post_finish_is_asked.Goals as goal

pub returns-clause-complete : goal.returns-clause-complete
returns-clause-complete c = completing_tells

pub returns-clause-allowed : goal.returns-clause-allowed
returns-clause-allowed c = finish_allowed
