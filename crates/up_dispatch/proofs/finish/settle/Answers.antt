use Rattle.std.proofs.Common.{◌≡◌, suc, ◌+◌, ℕ, drop, get_or, length, vec_len, arith, sym, ap, subst, ◌∙◌}
use Rattle.std.specs.Iterator.Adapters.{zip_first, zip_second}
use Rattle.std.specs.Vec.Iter.{into_iter_items}
use Rattle.up_lanes.specs.HowOf.{is_drained}
use Rattle.up_events.specs.Records.{lane_log}
use Rattle.up_dispatch.specs.declared.report.LaneReport.{LaneReport}
use Rattle.up_lanes.specs.declared.lane_end.LaneEnd.{LaneEnd}
use Rattle.up_dispatch.specs.QueuedUpTo.{IsQueuedUpTo}
use Rattle.up_dispatch.specs.Reports.{IsHandedOver}
use Rattle.up_dispatch.proofs.Drops.{at_drop}
use Rattle.up_dispatch.proofs.Each.{EachAt-more}
use Rattle.up_dispatch.proofs.finish.settle.Goals as goal

pub report_of-requires-clause-queued : goal.report_of-requires-clause-queued
report_of-requires-clause-queued g c = λ lifetimes lives.
    let step = c.in-Some.ensures.steps in
    let was = c.loop-cursor.invariant in
    let done = vec_len c.loop-cursor.reports in
    let cursor = c.in-Some.cursor in
    let end = c.in-Some.end in
    let journal = c.args.book.now.journal in
    let closed = c.args.book.now.closed in
    let at_feed = at_drop c.args.cursors.items done cursor (into_iter_items (zip_first c.next.new.self)) (sym step.0.0 ∙ was.feeds_are) in
    let at_end = at_drop c.args.lanes.items done end (into_iter_items (zip_second c.next.new.self)) (sym step.1.0 ∙ was.lanes_are) in
    let lane : end.lane ≡ done = sym (ap (λ e. e.lane) (at_end.1 end)) ∙ c.requires.order done end at_end.0 in
    subst (λ k. IsQueuedUpTo end.take_end.queue (lane_log journal k) closed cursor) (sym lane)
    (subst (λ f. IsQueuedUpTo end.take_end.queue (lane_log journal done) closed f) (at_feed.1 cursor)
    (subst (λ q. IsQueuedUpTo q (lane_log journal done) closed (get_or c.args.cursors.items done cursor)) (ap (λ e. e.take_end.queue) (at_end.1 end))
    (c.requires.queued done cursor end (omega (arith, at_end.0, c.args.lanes.ok.0)))))

pub loop-cursor-preserved : goal.loop-cursor-preserved
loop-cursor-preserved g c =
    let step = c.in-Some.ensures.steps in
    let was = c.loop-cursor.invariant in
    let done = vec_len c.loop-cursor.reports in
    let cursor = c.in-Some.cursor in
    let end = c.in-Some.end in
    let reports = c.loop-cursor.reports.items in
    let report = c.report_of.result in
    let journal = c.args.book.now.journal in
    let at_feed = at_drop c.args.cursors.items done cursor (into_iter_items (zip_first c.next.new.self)) (sym step.0.0 ∙ was.feeds_are) in
    let at_end = at_drop c.args.lanes.items done end (into_iter_items (zip_second c.next.new.self)) (sym step.1.0 ∙ was.lanes_are) in
    let lane : end.lane ≡ done = sym (ap (λ e. e.lane) (at_end.1 end)) ∙ c.requires.order done end at_end.0 in
    let more : vec_len c.push_reserved.new.self ≡ done + 1 = c.push_reserved.ensures.len in
    let next : suc done ≡ vec_len c.push_reserved.new.self = omega (arith, more) in
    let Same : ℕ → LaneReport g.row.H.Denot → Type 0 = λ k r. (e : LaneEnd g.row.H.Denot g.H.PostHook) → let x = get_or c.args.lanes.items k e in (r.lane ≡ x.lane) × (r.hook ≡ x.hook) × (r.how ≡ x.how) in
    let Handed : ℕ → LaneReport g.row.H.Denot → Type 0 = λ k r. IsHandedOver (lane_log journal k) (g.H.PostHook.handed r.hook) (is_drained r.how) r.left in
    let count : length reports ≡ done = omega (arith, c.loop-cursor.reports.ok.0) in
    let now = c.report_of.ensures.same in
    record {
      room = c.push_reserved.ensures.capacity ∙ was.room;
      cursors = omega (arith, more, step.0.1, was.cursors);
      lanes = omega (arith, more, step.1.1, was.lanes);
      feeds_are = at_feed.2 ∙ ap (λ n. drop n c.args.cursors.items) next;
      lanes_are = at_end.2 ∙ ap (λ n. drop n c.args.lanes.items) next;
      same = rw c.push_reserved.ensures.items (EachAt-more Same reports report was.same
          (λ e. let is : get_or c.args.lanes.items (length reports) e ≡ end = ap (λ n. get_or c.args.lanes.items n e) count ∙ at_end.1 e in
          (now.0 ∙ sym (ap (λ x. x.lane) is), now.1 ∙ sym (ap (λ x. x.hook) is), now.2 ∙ sym (ap (λ x. x.how) is))));
      handed = rw c.push_reserved.ensures.items (EachAt-more Handed reports report was.handed
          (subst (λ k. IsHandedOver (lane_log journal k) (g.H.PostHook.handed report.hook) (is_drained report.how) report.left) (lane ∙ sym count) c.report_of.ensures.handed));
    }
