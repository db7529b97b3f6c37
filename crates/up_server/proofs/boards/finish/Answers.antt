use Rattle.std.proofs.Common.{◌≡◌, ◌<◌, true, get_or, length, sym, ap, ◌∙◌, subst, arith}
use Rattle.up_dispatch.proofs.Drops.{there}
use Rattle.up_dispatch.specs.Reports.{HandOver, TellEachUpload}
use Rattle.up_lanes.specs.HowOf.{is_drained}
use Rattle.up_server.proofs.boards.finish.Goals as goal

pub finish-requires-after_bounds : goal.finish-requires-after_bounds
finish-requires-after_bounds g c κs within = λ k d lt.
    let end = c.requires.ends k d lt in
    end.2 ∙ ap g.B.Naming.queue (sym end.1)

pub returns-in-Ok-clause-counts : goal.returns-in-Ok-clause-counts
returns-in-Ok-clause-counts g c = c.in-Ok.ensures.counts

pub returns-in-Ok-clause-report : goal.returns-in-Ok-clause-report
returns-in-Ok-clause-report g c =
    let report = c.in-Ok.report in
    let said = c.in-Ok.ensures in
    record {
      legal = said.legal;
      lanes_are = sym report.lanes.ok.0 ∙ said.lanes.0;
      handed_over = subst (λ n. HandOver g.H.PostHook.handed n report.accepted.items report.lanes.items) said.lanes.0 said.handed;
      delivered = subst (λ n. TellEachUpload g.H.PostHook.handed n report.accepted.items report.lanes.items) said.lanes.0 said.delivered;
    }

pub returns-in-Ok-clause-sound : goal.returns-in-Ok-clause-sound
returns-in-Ok-clause-sound g c = λ k d within.
    let ends = c.args.ends in
    let count = c.in-Ok.ensures.lanes.0 in
    let within' : k < length ends.items = omega (arith, within, count, c.in-Ok.report.lanes.ok.0, ends.ok.0) in
    let e = there ends.items k within' in
    subst g.H.PostHook.is_sound (sym (c.in-Ok.ensures.lanes.1 k d within e).1) (c.requires.ends k e within').0

pub returns-in-Ok-clause-settled : goal.returns-in-Ok-clause-settled
returns-in-Ok-clause-settled g c = λ k d within drained.
    let ends = c.args.ends in
    let count = c.in-Ok.ensures.lanes.0 in
    let within' : k < length ends.items = omega (arith, within, count, c.in-Ok.report.lanes.ok.0, ends.ok.0) in
    let e = there ends.items k within' in
    let same = c.in-Ok.ensures.lanes.1 k d within e in
    let settled = (get_or ends.items k e).settled in
    subst (λ h. g.H.PostHook.is_settled h ≡ true) (sym same.1) (settled (subst (λ h. is_drained h ≡ true) same.2 drained))
