use Rattle.std.proofs.Common.{ap, subst}
use Rattle.std.specs.List.{flat_map}
use Rattle.up_wire.specs.Response.{WritesFront}
use Rattle.up_server.specs.ReportText.{event_line}
use Rattle.up_server.proofs.Writing.{each_cut, writes_err}
use Rattle.up_server.proofs.report.write_events.Goals as goal

pub returns-in_err-write_event-clause-written : goal.returns-in_err-write_event-clause-written
returns-in_err-write_event-clause-written g c =
    let events = c.args.events.now in
    let next = subst (WritesFront _ _) (ap event_line c.event-item.is) c.in_err-write_event.ensures.written in
    writes_err _ _ (flat_map event_line events) c.from_residual.result c.from_residual.ensures.0
    (each_cut event_line _ _ _ events c.loop-event.event-index c.event-item.result c.loop-event-test.true c.loop-event.invariant next)
