use Rattle.up_machine.proofs.answer.with_length.Goals as goal

pub returns-in-Some : goal.returns-in-Some
returns-in-Some c = rw c.in-Some.is c.with_number.ensures

pub returns-in_ok-with_field-in-None : goal.returns-in_ok-with_field-in-None
returns-in_ok-with_field-in-None c = rw c.in-None.is c.in_ok-with_field-in-None.ensures
