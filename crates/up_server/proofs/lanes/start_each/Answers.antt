use Rattle.std.proofs.Common.{◌≡◌, suc, ◌+◌, ℕ, drop, get_or, length, vec_len, rules, arith, sym, ap, ◌∙◌}
use Rattle.std.specs.Vec.Iter.{into_iter_items}
use Rattle.std.specs.declared.thread.PromisedHandle.{PromisedHandle}
use Rattle.up_lanes.specs.declared.lane_end.LaneEnd.{LaneEnd}
use Rattle.up_server.specs.declared.lanes.OfLane.{OfLane}
use Rattle.up_dispatch.proofs.Drops.{at_drop}
use Rattle.up_dispatch.proofs.Each.{EachAt-more}
use Rattle.up_server.proofs.lanes.start_each.Goals as goal

pub loop-lane-preserved : goal.loop-lane-preserved
loop-lane-preserved g c =
    let step = c.in-Some.ensures.steps in
    let was = c.loop-lane.invariant in
    let done = vec_len c.loop-lane.running in
    let lane = c.in-Some.lane in
    let running = c.loop-lane.running.items in
    let at = at_drop c.args.lanes.items done lane (into_iter_items c.next.new.self) (sym step.0 ∙ was.rest) in
    let more : vec_len c.push_reserved.new.self ≡ done + 1 = search rules in
    let next : suc done ≡ vec_len c.push_reserved.new.self = omega (arith, more) in
    let count : length running ≡ done = omega (arith, c.loop-lane.running.ok.0) in
    let handle = c.in_ok-spawn_with.field-0 in
    let P : ℕ → PromisedHandle (LaneEnd g.row.H.Denot g.H.PostHook) (OfLane g.row.H.Denot) → Type 0 = λ k h. (h.promise.0.value.lane ≡ k) × (h.promise.0.value.queue ≡ g.B.Naming.queue k) in
    let given = c.requires done lane at.0 in
    let is : get_or c.args.lanes.items done lane ≡ lane = at.1 lane in
    let promised : handle.promise.0.value ≡ lane = ap (λ p. p.0.value) c.in_ok-spawn_with.ensures.ok ∙ c.of.ensures in
    record {
      room = omega (arith, was.room, c.push_reserved.ensures.capacity);
      count = omega (arith, more, step.1, was.count);
      rest = at.2 ∙ ap (λ n. drop n c.args.lanes.items) next;
      lanes = rw c.push_reserved.ensures.items (EachAt-more P running handle was.lanes (
        ap (λ l. l.lane) promised ∙ ap (λ l. l.lane) (sym is) ∙ given.0 ∙ sym count,
        ap (λ l. l.queue) promised ∙ ap (λ l. l.queue) (sym is) ∙ given.1 ∙ ap g.B.Naming.queue (sym count),
      ));
    }

pub returns-clause-lanes : goal.returns-clause-lanes
returns-clause-lanes g c = c.loop-lane.invariant.lanes
