use Rattle.std.proofs.Common.{take}
use Rattle.std.specs.List.{flat_map}
use Rattle.std.specs.Io.KnownBytes.{Appends}
use Rattle.up_server.specs.ReportText.{event_line}
use Rattle.up_server.proofs.report.write_events.Given as goal

abbrev pub invariant-loop-event : goal.invariant-loop-event
invariant-loop-event g l = Appends (g.W.Sink.device l.fn.sink).bytes (g.W.Sink.device l.sink).bytes (flat_map event_line (take l.event-index l.events))
