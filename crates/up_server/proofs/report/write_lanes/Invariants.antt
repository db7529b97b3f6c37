use Rattle.std.proofs.Common.{take}
use Rattle.std.specs.Io.KnownBytes.{Appends}
use Rattle.up_server.specs.ReportText.{lanes_text}
use Rattle.up_server.proofs.report.write_lanes.Given as goal

abbrev pub invariant-loop-number : goal.invariant-loop-number
invariant-loop-number g l = Appends (g.W.Sink.device l.fn.sink).bytes (g.W.Sink.device l.sink).bytes (lanes_text g.H.Shown.count g.H.Shown.text 0 (take l.number l.lanes))
