use Rattle.up_machine.proofs.DetailsLemmas.{of_creation, stay}
use Rattle.up_machine.proofs.law.details_are_of_the_creation.Goals as goal

pub returns-clause-creation : goal.returns-clause-creation
returns-clause-creation c = of_creation

pub returns-clause-stay : goal.returns-clause-stay
returns-clause-stay c = stay
