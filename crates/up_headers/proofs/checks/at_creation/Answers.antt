use Rattle.up_headers.proofs.checks.at_creation.Goals as goal

pub returns-in-Post-clause-answer : goal.returns-in-Post-clause-answer
returns-in-Post-clause-answer c = rw c.in-Post.is c.create_request.ensures.answer
