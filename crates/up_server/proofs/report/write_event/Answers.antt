use Rattle.up_server.specs.ReportText.{event_line, event_text, outcome_of}
use Rattle.up_server.proofs.Writing.{front_cut, writes_err, writes_then}
use Rattle.up_server.proofs.report.write_event.Goals as goal

pub returns-in_err-write_event_text-clause-written : goal.returns-in_err-write_event_text-clause-written
returns-in_err-write_event_text-clause-written g c =
    let recorded = c.args.recorded.now in
    writes_err _ _ (event_line recorded) c.from_residual.result c.from_residual.ensures.0
    (front_cut _ _ (event_text recorded.0) (outcome_of recorded.1) c.in_err-write_event_text.ensures.written)

pub returns-clause-written : goal.returns-clause-written
returns-clause-written g c =
    let recorded = c.args.recorded.now in
    writes_then _ _ _ (event_text recorded.0) (outcome_of recorded.1) c.write_outcome.result c.in_ok-write_event_text.ensures.written c.write_outcome.ensures.written
