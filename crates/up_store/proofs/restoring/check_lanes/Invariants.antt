use Rattle.std.proofs.Common.{◌≡◌, ◌<◌, ℕ, slice_index_or}
use Rattle.up_handed.specs.declared.counted.Counted.{Counted}
use Rattle.up_store.specs.Permits.{HasCounted}
use Rattle.up_store.proofs.restoring.check_lanes.Given as goal

abbrev pub invariant-loop-of_lane : goal.invariant-loop-of_lane
invariant-loop-of_lane g l =
    (l.lane ≡ l.of_lane-index)
    × ((k : ℕ) (d : Counted) → k < l.of_lane-index → HasCounted g.B.Naming.lanes g.B.Naming.max_size l.entries k (slice_index_or l.counted k d))
