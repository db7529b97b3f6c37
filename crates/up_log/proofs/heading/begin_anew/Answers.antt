use Rattle.up_log.proofs.heading.begin_anew.Goals as goal

pub returns-in_err-shut-clause-crash : goal.returns-in_err-shut-clause-crash
returns-in_err-shut-clause-crash g c = λ setup are is first only. c.shut.ensures.crash setup is first only

pub returns-in_err-write_heading-clause-crash : goal.returns-in_err-write_heading-clause-crash
returns-in_err-write_heading-clause-crash g c = λ setup are is first only.
    let shut = c.in_ok-shut.ensures.shut setup is first only in
    c.write_heading.ensures.crash setup are shut.0 shut.1

pub returns-clause-opened : goal.returns-clause-opened
returns-clause-opened g c = λ setup are is first only.
    let shut = c.in_ok-shut.ensures.shut setup is first only in
    c.in_ok-write_heading.ensures.opened setup are shut.0

pub returns-clause-crash : goal.returns-clause-crash
returns-clause-crash g c = λ setup are is first only.
    let shut = c.in_ok-shut.ensures.shut setup is first only in
    c.write_heading.ensures.crash setup are shut.0 shut.1
