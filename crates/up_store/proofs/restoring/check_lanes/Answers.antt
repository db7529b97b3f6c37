use Rattle.std.proofs.Common.{◌≡◌, ◌+◌, ℕ, ap, slice_index_or, subst}
use Rattle.up_handed.specs.declared.counted.Counted.{Counted}
use Rattle.up_store.specs.Permits.{HasCounted}
use Rattle.up_store.proofs.Below.{each_below}
use Rattle.up_store.proofs.restoring.check_lanes.Goals as goal

pub loop-of_lane-preserved : goal.loop-of_lane-preserved
loop-of_lane-preserved g c =
    let N = g.B.Naming in
    let was = c.loop-of_lane.invariant in
    let counted = c.args.counted.now in
    let at = c.loop-of_lane.of_lane-index in
    let none : Counted = record { count = 0; left_out = 0 } in
    let Has : ℕ → Counted → Type 0 = HasCounted N.lanes N.max_size c.args.entries.now in
    let here = subst (λ (lane : ℕ). Has lane (slice_index_or counted at none)) was.0 c.in_ok-check_lane.ensures in
    (ap (λ (n : ℕ). n + 1) was.0, each_below Has counted at none c.loop-of_lane-test.true was.1 here)
