use Rattle.std.proofs.Common.{◌≡◌, ◌+◌, ◌≤◌, vec_len, vec_capacity, drop}
use Rattle.std.specs.Vec.Iter.{into_iter_items, into_iter_len}
use Rattle.up_dispatch.specs.Lists.{EachAt}
use Rattle.up_server.proofs.lanes.start_each.Given as goal

abbrev pub invariant-loop-lane : goal.invariant-loop-lane
invariant-loop-lane g l = record {
  room : vec_len l.fn.lanes ≤ vec_capacity l.running;
  count : vec_len l.running + into_iter_len l.lane-iterator ≡ vec_len l.fn.lanes;
  rest : into_iter_items l.lane-iterator ≡ drop (vec_len l.running) l.fn.lanes.items;
  lanes : EachAt (λ k h. (h.promise.0.value.lane ≡ k) × (h.promise.0.value.queue ≡ g.B.Naming.queue k)) l.running.items;
}
