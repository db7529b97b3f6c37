use Rattle.up_tie.proofs.written.Written.resume.Goals as goal

pub returns-clause-settled : goal.returns-clause-settled
returns-clause-settled g c = rw (c.over.ensures) c.resume-log.ensures.settled
