use Rattle.std.proofs.Common.{◌≡◌, ◌∙◌, List, get_or, vec_len, arith, sym, ap, subst}
use Rattle.std.proofs.lemmas.List.Elements.{All-get_or}
use Rattle.up_events.specs.declared.event.Accepted.{Accepted}
use Rattle.up_events.specs.Log.{log_of}
use Rattle.up_events.specs.Records.{lane_log}
use Rattle.up_lanes.specs.HowOf.{is_drained}
use Rattle.up_dispatch.specs.QueuedUpTo.{IsQueuedUpTo}
use Rattle.up_dispatch.specs.Reports.{IsHandedOver}
use Rattle.up_dispatch.specs.BoardView.{BoardView}
use Rattle.up_dispatch.proofs.Uploads.{tells_uploads}
use Rattle.up_dispatch.proofs.inside.Inside.completed.Goals as goal

pub settle-lanes-requires-clause-queued : goal.settle-lanes-requires-clause-queued
settle-lanes-requires-clause-queued g c κs within = λ k f e below.
    let book = c.self.inside.book in
    let lanes = c.args.lanes.items in
    let queue : (get_or lanes k e).take_end.queue ≡ g.B.Naming.queue k =
    All-get_or (λ x. x.take_end.queue ≡ g.B.Naming.queue x.lane) lanes k e (omega (arith, below, c.args.lanes.ok.0)) c.requires.queues ∙ ap g.B.Naming.queue (c.requires.all_lanes.1 k e (omega (arith, below, c.args.lanes.ok.0))) in
    subst (λ q. IsQueuedUpTo q (lane_log book.journal k) book.closed (get_or c.self.inside.cursors.items k f)) (sym queue)
    (c.self.invariant.queued k f (omega (arith, below, c.args.lanes.ok.0, c.requires.all_lanes.0, c.self.invariant.named, c.self.invariant.lanes, ap (λ (s : BoardView). s.book.journal.lanes) c.self.view_is)))

pub returns-clause-handed : goal.returns-clause-handed
returns-clause-handed g c = λ k d within.
    let journal = c.self.inside.book.journal in
    let r = get_or c.settle-lanes.result.items k d in
    let handed = g.H.PostHook.handed r.hook in
    let accepted : c.into_accepted-accepted.result.items ≡ journal.accepted = c.into_accepted-accepted.ensures.items in
    let lanes : journal.lanes ≡ vec_len c.settle-lanes.result =
    omega (arith, c.settle-lanes.ensures.count, c.requires.all_lanes.0, c.self.invariant.named, c.args.lanes.ok.0) in
    subst (λ n. IsHandedOver (log_of n c.into_accepted-accepted.result.items k) handed (is_drained r.how) r.left) lanes
    (subst (λ (l : List Accepted). IsHandedOver (log_of journal.lanes l k) handed (is_drained r.how) r.left) (sym accepted) (c.settle-lanes.ensures.handed k d within))

pub returns-clause-delivered : goal.returns-clause-delivered
returns-clause-delivered g c = λ k d within. tells_uploads _ k (get_or c.settle-lanes.result.items k d).left _ _ _ (returns-clause-handed g c k d within)
