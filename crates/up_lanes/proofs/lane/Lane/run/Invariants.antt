use Rattle.std.proofs.Common.{◌≡◌}
use Rattle.up_events.specs.Delivery.{IsPrefix}
use Rattle.up_lanes.specs.LaneViews.{StaysAlike}
use Rattle.up_lanes.proofs.lane.Lane.run.Given as goal

abbrev pub invariant-loop : goal.invariant-loop
invariant-loop g l = record {
  lane : l.self.lane ≡ l.fn.self.lane;
  queue : l.self.queue ≡ l.fn.self.queue;
  handed : IsPrefix l.fn.self.handed l.self.handed;
  alike : StaysAlike g.H.PostHook.may_answer l.fn.self.hook l.self.hook;
}
