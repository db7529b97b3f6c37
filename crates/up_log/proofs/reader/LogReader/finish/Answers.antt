use Rattle.up_log.proofs.reader.LogReader.finish.Goals as goal

pub returns-in-Ok-clause-settled : goal.returns-in-Ok-clause-settled
returns-in-Ok-clause-settled g c = λ setup read left reading clean.
    let s = c.in-Ok.ensures.settled setup read left reading.0 reading.1 clean in
    (s.0, record { file = s.1; place = reading.0.place; durable = s.2; usable = c.in-Ok.ensures.usable })
