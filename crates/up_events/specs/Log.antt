-- Numbered events: the log that the accepted changes define for a lane, and when a list of events is lawful.
use Rattle.std.specs.Prelude.{◌≡◌, ℕ, ◌+◌, ◌%◌, ◌≤◌, Bool, true, false, List, [], ◌∷◌, ◌++◌, length, map, filter, count_by, if◌then◌else◌, ◌==◌}
use Rattle.up_events.specs.Lists.{gather}
use Rattle.up_events.specs.History.{id_of, EventBody, steps_of, events_of, IsLegal}
use Rattle.up_events.specs.declared.event.Accepted.{Accepted}
use Rattle.up_events.specs.declared.event.Event.{Event}
use Rattle.up_events.specs.declared.event.Hook.{Hook}
use Rattle.up_events.specs.declared.event.Hook.TheVariants.{Create, Receive, Finish, Terminate}

-- the events of an upload after its first n, with their numbers
abbrev pub numbered : ℕ → ℕ → List EventBody → List Event
numbered u n [] = []
numbered u n (s ∷ steps) = record { id = u; number = n + 1; hook = s.0; offset = s.1; length = s.2 } ∷ numbered u (n + 1) steps

-- what a change adds to the log of a lane: the events of an upload of that lane, each with its number among the events
-- of that upload
abbrev pub added_to : ℕ → ℕ → List Accepted → Accepted → List Event
added_to lanes k before c =
    if id_of c % lanes == k then numbered (id_of c) (length (events_of before (id_of c))) (steps_of before c) else []

-- the log of a lane: what each change adds to it, in order
unfoldable pub log_of : ℕ → List Accepted → ℕ → List Event
log_of lanes changes k = gather (added_to lanes k) [] changes

-- an event without its id and number
abbrev pub body_of : Event → EventBody
body_of e = (e.hook, e.offset, e.length)

-- whether the event belongs to the upload
abbrev pub is_of : ℕ → Event → Bool
is_of u e = e.id == u

-- whether the hook is post-finish
abbrev pub is_finish : Hook → Bool
is_finish Create = false
is_finish Receive = false
is_finish Finish = true
is_finish Terminate = false

-- the events have the numbers n + 1, n + 2 and so on
abbrev pub CountsFrom : ℕ → List Event → Type 0
CountsFrom n [] = Unit {0}
CountsFrom n (e ∷ events) = (e.number ≡ n + 1) × CountsFrom (n + 1) events

-- the events of one upload are lawful: numbered 1, 2, 3 and so on, with a post-create first, at most one post-finish,
-- and nothing after a post-terminate
pub record IsLawfulRun (events : List Event) : Type 0 where
  pub numbers : CountsFrom 0 events
  pub first : (e : Event) (rest : List Event) → events ≡ e ∷ rest → e.hook ≡ Create
  pub one_finish : count_by (λ (e : Event). is_finish e.hook) events ≤ 1
  pub last : (front back : List Event) (e : Event) → events ≡ front ++ e ∷ back → e.hook ≡ Terminate → back ≡ []

-- the events of each upload are lawful
abbrev pub IsLawful : List Event → Type 0
IsLawful events = (u : ℕ) → IsLawfulRun (filter (is_of u) events)

-- the log that a legal list of changes defines for a lane is lawful
abbrev pub LogsAreLawful : Type 0
LogsAreLawful = (lanes k : ℕ) (changes : List Accepted) → IsLegal changes → IsLawful (log_of lanes changes k)

-- the events of an upload in the log of its lane are the events that its changes result in, ids and numbers aside
abbrev pub LogsTellEvents : Type 0
LogsTellEvents = (lanes u : ℕ) (changes : List Accepted) → IsLegal changes → map body_of (filter (is_of u) (log_of lanes changes (u % lanes))) ≡ events_of changes u

-- one more change adds its events at the end of the log of its lane, and nothing to another log
abbrev pub LogsGrowAtTheirEnd : Type 0
LogsGrowAtTheirEnd = (lanes k : ℕ) (changes : List Accepted) (c : Accepted) → log_of lanes (changes ++ c ∷ []) k ≡ log_of lanes changes k ++ added_to lanes k changes c

-- every prefix of a lawful list is lawful
abbrev pub FrontsAreLawful : Type 0
FrontsAreLawful = (front back : List Event) → IsLawful (front ++ back) → IsLawful front
