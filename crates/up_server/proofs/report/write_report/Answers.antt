use Rattle.std.proofs.Common.{length, ap, subst}
use Rattle.std.specs.Io.KnownBytes.{Appends}
use Rattle.std.proofs.KnownBytes.{Appends-trans}
use Rattle.up_server.specs.ReportText.{count_line, lanes_text, report_by}
use Rattle.up_wire.specs.Response.{WritesFront}
use Rattle.up_server.proofs.Writing.{front_cut, front_then, writes_err, writes_kept}
use Rattle.up_server.proofs.report.write_report.Goals as goal

pub returns-in_err-write_count-clause-written : goal.returns-in_err-write_count-clause-written
returns-in_err-write_count-clause-written g c =
    let r = c.args.report.now in
    let next = subst (WritesFront _ _) (ap count_line c.len.ensures) c.in_err-write_count.ensures.written in
    writes_err _ _ (report_by g.H.Shown.count g.H.Shown.text r) c.from_residual.result c.from_residual.ensures.0
    (front_cut _ _ (count_line (length r.accepted.items)) (lanes_text g.H.Shown.count g.H.Shown.text 0 r.lanes.items) next)

pub returns-in_err-write_lanes-clause-written : goal.returns-in_err-write_lanes-clause-written
returns-in_err-write_lanes-clause-written g c =
    let r = c.args.report.now in
    let count = subst (Appends _ _) (ap count_line c.len.ensures) c.in_ok-write_count.ensures.written in
    let lanes = subst (WritesFront _ _) (ap (lanes_text g.H.Shown.count g.H.Shown.text 0) c.as_slice.ensures.value) c.in_err-write_lanes.ensures.written in
    writes_err _ _ (report_by g.H.Shown.count g.H.Shown.text r) c.from_residual-in_err-write_lanes.result c.from_residual-in_err-write_lanes.ensures.0
    (front_then _ _ _ (count_line (length r.accepted.items)) (lanes_text g.H.Shown.count g.H.Shown.text 0 r.lanes.items) count lanes)

pub returns-clause-written : goal.returns-clause-written
returns-clause-written g c =
    let r = c.args.report.now in
    let count = subst (Appends _ _) (ap count_line c.len.ensures) c.in_ok-write_count.ensures.written in
    let lanes = subst (Appends _ _) (ap (lanes_text g.H.Shown.count g.H.Shown.text 0) c.as_slice.ensures.value) c.in_ok-write_lanes.ensures.written in
    writes_kept _ _ _ (report_by g.H.Shown.count g.H.Shown.text r) c.flush.result
    (Appends-trans _ _ _ (count_line (length r.accepted.items)) (lanes_text g.H.Shown.count g.H.Shown.text 0 r.lanes.items) count lanes) c.flush.ensures.kept
