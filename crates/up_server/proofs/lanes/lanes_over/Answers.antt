use Rattle.std.proofs.Common.{◌≡◌, suc, ◌+◌, ℕ, [], false, drop, get_or, length, vec_len, rules, arith, sym, ap, ◌∙◌}
use Rattle.std.specs.Iterator.Adapters.{zip_first, zip_second}
use Rattle.std.specs.Vec.Iter.{into_iter_items}
use Rattle.up_dispatch.proofs.Drops.{at_drop}
use Rattle.up_dispatch.proofs.Each.{EachAt-more}
use Rattle.up_lanes.specs.LaneViews.{LaneView, lane_view}
use Rattle.up_queue.specs.EndViews.{TakeEndView}
use Rattle.up_server.proofs.lanes.lanes_over.Goals as goal

pub loop-take_end-preserved : goal.loop-take_end-preserved
loop-take_end-preserved g c =
    let step = c.in-Some.ensures.steps in
    let was = c.loop-take_end.invariant in
    let done = vec_len c.loop-take_end.lanes in
    let lanes = c.loop-take_end.lanes.items in
    let takes = c.args.takes.items in
    let hooks = c.args.hooks.items in
    let at = at_drop takes done c.in-Some.take_end (into_iter_items (zip_first c.next.new.self)) (sym step.0.0 ∙ was.takes_are) in
    let at_hook = at_drop hooks done c.in-Some.hook (into_iter_items (zip_second c.next.new.self)) (sym step.1.0 ∙ was.hooks_are) in
    let more : vec_len c.push_reserved.new.self ≡ done + 1 = search rules in
    let next : suc done ≡ vec_len c.push_reserved.new.self = omega (arith, more) in
    let count : length lanes ≡ done = omega (arith, c.loop-take_end.lanes.ok.0) in
    let P : ℕ → LaneView g.row.H.Denot → Type 0 = λ k x. (e : TakeEndView) (h : g.row.H.Denot) → x ≡ lane_view k (get_or takes k e).queue [] false (get_or hooks k h) in
    let number : c.len-in-loop-take_end.result ≡ length lanes = c.len-in-loop-take_end.ensures ∙ sym count in
    record {
      room = omega (arith, was.room, c.push_reserved.ensures.capacity);
      takes = omega (arith, more, step.0.1, was.takes);
      hooks = omega (arith, more, step.1.1, was.hooks);
      takes_are = at.2 ∙ ap (λ n. drop n takes) next;
      hooks_are = at_hook.2 ∙ ap (λ n. drop n hooks) next;
      lanes = rw c.push_reserved.ensures.items (EachAt-more P lanes c.new.result was.lanes
          (λ e h. let is : c.in-Some.take_end ≡ get_or takes (length lanes) e = sym (at.1 e) ∙ ap (λ n. get_or takes n e) (sym count) in
          let hook_is : c.in-Some.hook ≡ get_or hooks (length lanes) h = sym (at_hook.1 h) ∙ ap (λ n. get_or hooks n h) (sym count) in
          c.new.ensures ∙ (λ i. lane_view (number i) (is i).queue [] false (hook_is i))));
    }

pub returns-clause-lanes : goal.returns-clause-lanes
returns-clause-lanes g c = c.loop-take_end.invariant.lanes
