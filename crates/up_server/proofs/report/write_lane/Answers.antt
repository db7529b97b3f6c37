use Rattle.std.proofs.Common.{ap, subst}
use Rattle.std.specs.Io.KnownBytes.{Appends}
use Rattle.up_wire.specs.Response.{WritesFront}
use Rattle.up_server.specs.ReportText.{lane_line, lane_text}
use Rattle.up_server.proofs.Writing.{front_cut, writes_err, writes_then}
use Rattle.up_server.proofs.report.write_lane.Goals as goal

pub returns-in_err-write_lane_line-clause-written : goal.returns-in_err-write_lane_line-clause-written
returns-in_err-write_lane_line-clause-written g c =
    let lane = c.args.lane.now in
    let count = g.H.Shown.count in
    let text = g.H.Shown.text in
    let line = subst (WritesFront _ _) (ap (lane_line c.args.number lane.how) c.count_handed.ensures) c.in_err-write_lane_line.ensures.written in
    writes_err _ _ (lane_text count text c.args.number lane) c.from_residual.result c.from_residual.ensures.0
    (front_cut _ _ (lane_line c.args.number lane.how (count lane.hook)) (text lane.hook) line)

pub returns-clause-written : goal.returns-clause-written
returns-clause-written g c =
    let lane = c.args.lane.now in
    let count = g.H.Shown.count in
    let line = subst (Appends _ _) (ap (lane_line c.args.number lane.how) c.count_handed.ensures) c.in_ok-write_lane_line.ensures.written in
    writes_then _ _ _ (lane_line c.args.number lane.how (count lane.hook)) (g.H.Shown.text lane.hook) c.write_text.result line c.write_text.ensures.written
