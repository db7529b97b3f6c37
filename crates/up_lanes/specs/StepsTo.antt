-- The state of a lane after a step.
use Rattle.std.specs.Prelude.{◌≡◌, List, Bool, [], ◌∷◌, ◌++◌, true, false}
use Rattle.up_events.specs.declared.event.Event.{Event}
use Rattle.up_lanes.specs.LaneViews.{LaneView, lane_view}
use Rattle.up_lanes.specs.declared.lane.StepEnd.{StepEnd}
use Rattle.up_lanes.specs.declared.lane.StepEnd.TheVariants.{Handed, Nothing, Ended, NoMemory}

-- it is the same lane, which has handed over these events, and has taken the end or not
abbrev pub IsLaneAt : {H : Type 0} → LaneView H → LaneView H → List Event → Bool → Type 0
IsLaneAt old new handed ended = new ≡ lane_view old.lane old.queue handed ended new.hook

-- one more event was handed over; or none, since the queue returned none or memory ran out; or the end was taken, in
-- this step or before. If the end was taken before, only this last case is possible. A queue that returned no item may
-- still hold one
abbrev pub StepsTo : {H : Type 0} → StepEnd → LaneView H → LaneView H → Type 0
StepsTo Handed old new = (old.ended ≡ false) × ((event : Event) × IsLaneAt old new (old.handed ++ event ∷ []) false)
StepsTo Nothing old new = (old.ended ≡ false) × IsLaneAt old new old.handed false
StepsTo Ended old new = IsLaneAt old new old.handed true
StepsTo NoMemory old new = (old.ended ≡ false) × IsLaneAt old new old.handed false
