use Rattle.up_server.specs.ReportText.{event_line}
use Rattle.up_server.proofs.Writing.{writes_kept}
use Rattle.up_server.proofs.report.write_event_line.Goals as goal

pub returns-clause-written : goal.returns-clause-written
returns-clause-written g c =
    writes_kept _ _ _ (event_line c.args.recorded.now) c.flush.result c.in_ok-write_event.ensures.written c.flush.ensures.kept
