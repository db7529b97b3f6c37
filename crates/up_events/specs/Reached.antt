-- The state of an upload after one more change.
use Rattle.std.specs.Prelude.{ℕ, ◌+◌, Bool, false, Option, Some, None, unwrap_or, List, [], ◌∷◌, if◌then◌else◌, ◌==◌}
use Rattle.up_events.specs.History.{is_final_kind, is_whole}
use Rattle.up_events.specs.declared.event.Accepted.{Accepted}
use Rattle.up_events.specs.declared.event.Accepted.TheVariants.{Created, Appended, Declared, Terminated}
use Rattle.up_events.specs.declared.event.Hook.{Hook}
use Rattle.up_events.specs.declared.event.Hook.TheVariants.{Create, Receive, Terminate}
use Rattle.up_events.specs.declared.track.Track.{Track}

-- the offset and the length after the change, with the number of events before it
abbrev pub reached : Track → Accepted → Track
reached t (Created id length kind) = record { events = t.events; offset = if is_final_kind kind then unwrap_or length 0 else 0; length = length }
reached t (Appended id count) = record { events = t.events; offset = t.offset + count; length = t.length }
reached t (Declared id length count) = record { events = t.events; offset = t.offset + count; length = Some length }
reached t (Terminated id) = t

-- the number of bytes that the change adds
abbrev pub bytes_added : Accepted → ℕ
bytes_added (Created id length kind) = 0
bytes_added (Appended id count) = count
bytes_added (Declared id length count) = count
bytes_added (Terminated id) = 0

-- the hook of the event that reports the change itself: none if only a length was declared
abbrev pub hook_of : Accepted → Option Hook
hook_of (Created id length kind) = Some Create
hook_of (Appended id count) = Some Receive
hook_of (Declared id length count) = if count == 0 then None else Some Receive
hook_of (Terminated id) = Some Terminate

-- whether the change makes its upload complete, with this offset and length after it
abbrev pub makes_whole : Accepted → ℕ → Option ℕ → Bool
makes_whole (Created id _ kind) offset length = is_whole offset length
makes_whole (Appended id count) offset length = is_whole offset length
makes_whole (Declared id _ count) offset length = is_whole offset length
makes_whole (Terminated id) offset length = false

-- the state of the upload that is kept: none once it is terminated
abbrev pub track_left : Accepted → Track → Option Track
track_left (Created id length kind) t = Some t
track_left (Appended id count) t = Some t
track_left (Declared id length count) t = Some t
track_left (Terminated id) t = None

-- the ids that the change terminates
abbrev pub ended_by : Accepted → List ℕ
ended_by (Created id length kind) = []
ended_by (Appended id count) = []
ended_by (Declared id length count) = []
ended_by (Terminated id) = id ∷ []
