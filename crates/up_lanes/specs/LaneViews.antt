-- What contracts see of a lane.
use Rattle.std.specs.Prelude.{ℕ, List, Bool}
use Rattle.up_events.specs.declared.event.Event.{Event}
use Rattle.up_hooks.specs.declared.post_hook.Outcome.{Outcome}
use Rattle.up_queue.specs.EndViews.{QueueId}

-- its number, its queue, the events that were handed over, whether the end was taken, and its post-hook
pub record LaneView (H : Type 0) : Type 0 where
  pub lane : ℕ
  pub queue : QueueId
  pub handed : List Event
  pub ended : Bool
  pub hook : H

abbrev pub lane_view : {H : Type 0} → ℕ → QueueId → List Event → Bool → H → LaneView H
lane_view lane queue handed ended hook = record { lane = lane; queue = queue; handed = handed; ended = ended; hook = hook }

-- the hook stays the same: the outcomes that it may return for an event are among those that it might have returned
-- before
abbrev pub StaysAlike : {H : Type 0} → (H → Event → Outcome → Type 0) → H → H → Type 0
StaysAlike may_answer old new = (event : Event) (outcome : Outcome) → may_answer new event outcome → may_answer old event outcome
