use Rattle.up_wire.proofs.OneAnswer.{one_answer, readings_agree}
use Rattle.up_wire.proofs.law.an_input_has_one_answer.Goals as goal

pub returns-clause-answers : goal.returns-clause-answers
returns-clause-answers c = one_answer

pub returns-clause-readings : goal.returns-clause-readings
returns-clause-readings c = readings_agree
