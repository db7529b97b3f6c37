-- The model of a journal.
use Rattle.std.specs.Prelude.{◌≡◌, ℕ, ◌+◌, ◌%◌, Bool, true, List, ◌++◌, ◌∷◌, [], length, drop, map, replicate, slice_get, slice_index, slice_set, Some, if◌then◌else◌}
use Rattle.up_events.specs.declared.event.Accepted.{Accepted}
use Rattle.up_events.specs.declared.event.Event.{Event}
use Rattle.up_events.specs.History.{id_of}
use Rattle.up_events.specs.Left.{Left}
use Rattle.up_events.specs.Log.{log_of}

-- the number of lanes, the accepted changes in order, whether the program keeps them, and the number of forgotten
-- events of each lane's log
pub record Records : Type 0 where
  pub lanes : ℕ
  pub accepted : List Accepted
  pub keeps : Bool
  pub firsts : List ℕ

-- no changes, and no forgotten events
abbrev pub empty_records : ℕ → Records
empty_records lanes = record { lanes = lanes; accepted = []; keeps = true; firsts = replicate lanes 0 }

-- the log of a lane
abbrev pub lane_log : Records → ℕ → List Event
lane_log journal k = log_of journal.lanes journal.accepted k

-- the number of forgotten events of a lane's log
abbrev pub first_of : Records → ℕ → ℕ
first_of journal k = slice_index journal.firsts k

-- the log of a lane without the forgotten events
abbrev pub kept_log : Records → ℕ → List Event
kept_log journal k = drop (first_of journal k) (lane_log journal k)

-- the accepted changes that are kept
abbrev pub kept_changes : Records → List Accepted
kept_changes journal = if journal.keeps then journal.accepted else []

-- the journal with one more change
abbrev pub noted : Records → Accepted → Records
noted journal change = record journal { accepted = journal.accepted ++ change ∷ [] }

-- the journal without the events of a lane's log before this place
abbrev pub forgot : Records → ℕ → ℕ → Records
forgot journal k place = record journal { firsts = slice_set journal.firsts k place }

-- the number of forgotten events of each log
abbrev pub firsts_of : List Left → List ℕ
firsts_of logs = map (λ (log : Left). log.first) logs

-- in the log of its lane, the events of a change are the `count` events from the place `first` on
pub record ArePlaces (old : Records) (change : Accepted) (lane first count : ℕ) : Type 0 where
  pub of_its_lane : lane ≡ id_of change % old.lanes
  pub begin : first ≡ length (lane_log old lane)
  pub end : first + count ≡ length (lane_log (noted old change) lane)

-- an empty log for each lane
pub record AreEmpty (lanes : ℕ) (logs : List Left) : Type 0 where
  pub rows : length logs ≡ lanes
  pub first : (k : ℕ) (log : Left) → slice_get logs k ≡ Some log → log.first ≡ 0
  pub empty : (k : ℕ) (log : Left) → slice_get logs k ≡ Some log → log.events ≡ []
