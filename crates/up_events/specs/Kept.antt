-- The invariant of the fields of a journal.
use Rattle.std.specs.Prelude.{◌≡◌, ℕ, ◌<◌, ◌≤◌, Some, None, if◌then◌else◌, List, length, drop, slice_get}
use Rattle.std.specs.Ordering.{nat_cmp}
use Rattle.std.specs.BTreeMap.{get}
use Rattle.up_events.specs.Ascending.{has}
use Rattle.up_events.specs.History.{is_alive, is_terminated, offset_of, length_of, events_of, IsLegal}
use Rattle.up_events.specs.Left.{Left}
use Rattle.up_events.specs.Log.{log_of}
use Rattle.up_events.specs.declared.limits.TheConstants.{MAX_LANES}
use Rattle.up_events.specs.declared.event.Event.{Event}
use Rattle.up_events.specs.declared.event.Accepted.{Accepted}
use Rattle.up_events.specs.declared.track.Track.{Track}
use Rattle.up_events.specs.declared.journal.Journal.TheInside.{Inside}

-- the state of an upload after these changes
abbrev pub track_of : List Accepted → ℕ → Track
track_of changes u = record { events = length (events_of changes u); offset = offset_of changes u; length = length_of changes u }

-- the tail is the rest of the log
pub record IsTailOf (log : List Event) (tail : Left) : Type 0 where
  pub within : tail.first ≤ length log
  pub events_are : tail.events ≡ drop tail.first log

-- there are 1 to 16 lanes, the changes are legal, each tail is that of the log that the changes define, the tracks are
-- the states of the uploads that exist, and the ids are those of the terminated uploads
pub record IsKept (a : Inside) : Type 0 where
  pub some_lane : 0 < a.lanes
  pub few_lanes : a.lanes ≤ MAX_LANES
  pub legal : IsLegal a.accepted.items
  pub rows : length a.logs.items ≡ a.lanes
  pub logs : (k : ℕ) (log : Left) → slice_get a.logs.items k ≡ Some log → IsTailOf (log_of a.lanes a.accepted.items k) log
  pub tracks : (u : ℕ) → get nat_cmp a.tracks u ≡ (if is_alive a.accepted.items u then Some (track_of a.accepted.items u) else None)
  pub ended : (u : ℕ) → has a.ended u ≡ is_terminated a.accepted.items u
