use Rattle.std.proofs.Common.{ap, subst, arith}
use Rattle.std.proofs.lemmas.Grind.{common_steps}
use Rattle.std.specs.Io.KnownBytes.{Appends}
use Rattle.up_server.specs.ReportText.{lane_text, lanes_text}
use Rattle.up_wire.specs.Response.{WritesFront}
use Rattle.up_server.proofs.ReportLemmas.{lanes_cut, lanes_more}
use Rattle.up_server.proofs.Writing.{writes_err}
use Rattle.up_server.proofs.report.write_lanes.Goals as goal

pub returns-in_err-write_lane-clause-written : goal.returns-in_err-write_lane-clause-written
returns-in_err-write_lane-clause-written g c =
    let lanes = c.args.lanes.now in
    let next = subst (WritesFront _ _) (ap (lane_text g.H.Shown.count g.H.Shown.text c.loop-number.number) c.index-lanes-number.is) c.in_err-write_lane.ensures.written in
    writes_err _ _ (lanes_text g.H.Shown.count g.H.Shown.text 0 lanes) c.from_residual.result c.from_residual.ensures.0
    (lanes_cut g.H.Shown.count g.H.Shown.text _ _ _ lanes c.loop-number.number c.index-lanes-number.result c.loop-number-test.true c.loop-number.invariant next)

pub loop-number-preserved : goal.loop-number-preserved
loop-number-preserved g c =
    let next = subst (Appends _ _) (ap (lane_text g.H.Shown.count g.H.Shown.text c.loop-number.number) c.index-lanes-number.is) c.in_ok-write_lane.ensures.written in
    lanes_more g.H.Shown.count g.H.Shown.text _ _ _ c.args.lanes.now c.loop-number.number c.index-lanes-number.result c.loop-number-test.true c.loop-number.invariant next

pub loop-number-init : goal.loop-number-init
loop-number-init g c = grind (arith, common_steps)

pub returns-clause-written : goal.returns-clause-written
returns-clause-written g c = grind (arith, common_steps)
