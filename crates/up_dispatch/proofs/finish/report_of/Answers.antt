use Rattle.std.proofs.Common.{◌≡◌, ◌+◌, ◌-◌, ◌≤◌, cond, true, length, arith, ap, ◌∙◌}
use Rattle.up_events.specs.Delivery.{IsPrefix}
use Rattle.up_events.specs.Records.{lane_log}
use Rattle.up_lanes.specs.HowOf.{is_drained}
use Rattle.up_dispatch.proofs.Handing.{handed_over, byte_is, ends_count}
use Rattle.up_dispatch.proofs.finish.report_of.Goals as goal
use Rattle.up_dispatch.proofs.finish.report_of.Goals.{After-from-2}

facts : (g : _) (c : After-from-2 g) →
    let log = lane_log c.args.book.now.journal c.args.end.lane in let handed = g.H.PostHook.handed c.args.end.hook in let drained = is_drained c.args.end.how in
    (c.from-2.result ≤ c.from.result) × (c.from.result - c.from-2.result ≤ c.compare-held.result) × (length handed + (c.compare-held.result - (c.from.result - c.from-2.result)) ≡ c.args.cursor.position)
    × IsPrefix handed log × (drained ≡ true → handed ≡ log)
facts g c =
    let log = lane_log c.args.book.now.journal c.args.end.lane in
    let handed = g.H.PostHook.handed c.args.end.hook in
    let drained = is_drained c.args.end.how in
    let queued = c.requires.queued in
    let held = c.compare-held.ensures.left in
    let t = handed_over log c.args.cursor.position c.args.cursor.ended handed drained c.args.cursor.put_end.put c.args.end.take_end.taken held.0 c.compare-held.result
    queued.within (λ e. (queued.whole e).1) queued.put_is c.args.end.kept held.1.whole held.2 in
    let n = ends_count c.args.cursor.ended drained c.args.cursor.position c.compare-held.result (length handed) (length log) t.0 (λ d. ap length (t.2 d)) (λ e. (queued.whole e).1) queued.within t.3 in
    let end = c.from.ensures ∙ byte_is c.args.cursor.ended in
    let taken = c.from-2.ensures ∙ byte_is c.is_drained.result ∙ ap (λ b. cond b 1 0) c.is_drained.ensures in
    rw (end, taken) (n.0, n.1, n.2, t.1, t.2)

pub overflow_sub-end : goal.overflow_sub-end
overflow_sub-end g c = (facts g (goal.at.overflow_sub-end g c).After-from-2).0

pub overflow_sub-unput : goal.overflow_sub-unput
overflow_sub-unput g c =
    let all = c.log_len.ensures ∙ ap (λ j. length (lane_log j c.args.end.lane)) c.journal.ensures.journal in omega (arith, c.requires.queued.within, all)

pub overflow_sub-left : goal.overflow_sub-left
overflow_sub-left g c = (facts g (goal.at.overflow_sub-left g c).After-from-2).1

pub overflow_add-left : goal.overflow_add-left
overflow_add-left g c =
    let t = facts g (goal.at.overflow_add-left g c).After-from-2 in
    let all = c.log_len.ensures ∙ ap (λ j. length (lane_log j c.args.end.lane)) c.journal.ensures.journal in
    omega (arith, t.1, t.2, c.requires.queued.within, all, c.log_len.type_inv)

pub returns-clause-handed : goal.returns-clause-handed
returns-clause-handed g c =
    let t = facts g (goal.at.returns-clause-handed g c).After-from-2 in
    let all = c.log_len.ensures ∙ ap (λ j. length (lane_log j c.args.end.lane)) c.journal.ensures.journal in
    record { begins = t.3; all = t.4; rest = omega (arith, t.1, t.2, c.requires.queued.within, all) }
