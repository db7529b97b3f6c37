-- When the events that were handed over are a prefix of the events of each upload.
use Rattle.std.specs.Prelude.{◌≡◌, ℕ, List, ◌++◌, length, map, filter, Contains}
use Rattle.up_events.specs.History.{EventBody, events_of}
use Rattle.up_events.specs.Log.{log_of, body_of, is_of, CountsFrom}
use Rattle.up_events.specs.declared.event.Accepted.{Accepted}
use Rattle.up_events.specs.declared.event.Event.{Event}

-- each member of the first list is also in the second
abbrev pub IsWithin : {X : Type 0} → List X → List X → Type 0
IsWithin {X} xs ys = (x : X) → Contains xs x → Contains ys x

-- the first list is a prefix of the second
abbrev pub IsPrefix : {X : Type 0} → List X → List X → Type 0
IsPrefix {X} xs ys = (rest : List X) × (ys ≡ xs ++ rest)

-- the number of events of this upload
abbrev pub count_of : ℕ → List Event → ℕ
count_of u events = length (filter (is_of u) events)

-- the events of each upload have the numbers 1, 2, 3 and so on, in this order
abbrev pub IsNumbered : List Event → Type 0
IsNumbered events = (u : ℕ) → CountsFrom 0 (filter (is_of u) events)

-- the events of an upload that were handed over, without ids and numbers
abbrev pub handed_of : List Event → ℕ → List EventBody
handed_of handed u = map body_of (filter (is_of u) handed)

-- what was handed over of each upload is a prefix of its events, each once and in order
abbrev pub IsDelivered : List Accepted → List Event → Type 0
IsDelivered accepted handed = (u : ℕ) → IsPrefix (handed_of handed u) (events_of accepted u)

-- if events of a lane's log were handed over with the numbers 1, 2, 3 and so on for each upload, they are delivered
abbrev pub NumberedIsDelivered : Type 0
NumberedIsDelivered =
    (lanes k : ℕ) (changes : List Accepted) (handed : List Event) → IsWithin handed (log_of lanes changes k) → IsNumbered handed → IsDelivered changes handed
