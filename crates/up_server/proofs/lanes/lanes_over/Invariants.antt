use Rattle.std.proofs.Common.{◌≡◌, ◌+◌, ◌≤◌, vec_len, vec_capacity, drop, [], false, slice_index_or}
use Rattle.std.specs.Iterator.Adapters.{zip_first, zip_second}
use Rattle.std.specs.Vec.Iter.{into_iter_items, into_iter_len}
use Rattle.up_dispatch.specs.Lists.{EachAt}
use Rattle.up_lanes.specs.LaneViews.{lane_view}
use Rattle.up_server.proofs.lanes.lanes_over.Given as goal

abbrev pub invariant-loop-take_end : goal.invariant-loop-take_end
invariant-loop-take_end g l =
    let done = vec_len l.lanes in
    record {
      room : vec_len l.fn.takes ≤ vec_capacity l.lanes;
      takes : done + into_iter_len (zip_first l.take_end-iterator) ≡ vec_len l.fn.takes;
      hooks : done + into_iter_len (zip_second l.take_end-iterator) ≡ vec_len l.fn.hooks;
      takes_are : into_iter_items (zip_first l.take_end-iterator) ≡ drop done l.fn.takes.items;
      hooks_are : into_iter_items (zip_second l.take_end-iterator) ≡ drop done l.fn.hooks.items;
      lanes : EachAt (λ k x. (e : _) (h : _) → x ≡ lane_view k (slice_index_or l.fn.takes.items k e).queue [] false (slice_index_or l.fn.hooks.items k h)) l.lanes.items;
    }
