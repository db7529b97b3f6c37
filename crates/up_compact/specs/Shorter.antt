-- A shorter log: the entries about some uploads are left out.
use Rattle.std.specs.Prelude.{◌≡◌, ◌≤◌, ◌-◌, ℕ, Bool, true, false, not, List, [], drop, filter, length, None, if◌then◌else◌}
use Rattle.std.specs.FinMap as map
use Rattle.std.specs.List.{All, list_any}
use Rattle.up_events.specs.History.{id_of, is_final_kind, is_known}
use Rattle.up_events.specs.Records.{lane_log}
use Rattle.up_events.specs.declared.event.Accepted.{Accepted}
use Rattle.up_events.specs.declared.event.Event.{Event}
use Rattle.up_headers.specs.declared.request.Request.{Request}
use Rattle.up_headers.specs.declared.request.Request.TheVariants as request
use Rattle.up_log.specs.declared.entry.Entry.{Entry}
use Rattle.up_machine.specs.Decision.{decide, decide_plan}
use Rattle.up_machine.specs.State.{Contents, State}
use Rattle.up_machine.specs.declared.plan.Asked.{Asked}
use Rattle.up_replay.specs.Replay.{replayed}

-- whether a request creates, changes, removes or reads one of these uploads
abbrev pub is_about : (ℕ → Bool) → Request → ℕ → Bool
is_about among request.Options id = false
is_about among (request.Create new) id = among id
is_about among (request.Head u) id = among u
is_about among (request.Patch p) id = among p.id
is_about among (request.Delete u) id = among u
is_about among (request.Get u) id = among u

-- the uploads that a request joins: the parts of a final upload to be created
abbrev pub joined_uploads : Request → List ℕ
joined_uploads request.Options = []
joined_uploads (request.Create new) = if is_final_kind new.kind then new.parts else []
joined_uploads (request.Head u) = []
joined_uploads (request.Patch p) = []
joined_uploads (request.Delete u) = []
joined_uploads (request.Get u) = []

-- whether an entry is left out when all entries about these uploads are
abbrev pub is_left_out : (ℕ → Bool) → Entry → Bool
is_left_out among entry = is_about among entry.request entry.id

-- the entries of the shorter log
abbrev pub kept : (ℕ → Bool) → List Entry → List Entry
kept among entries = filter (λ (entry : Entry). not (is_left_out among entry)) entries

-- an entry that stays does not join any of these uploads
abbrev pub JoinsKept : (ℕ → Bool) → Entry → Type 0
JoinsKept among entry = is_left_out among entry ≡ false → list_any among (joined_uploads entry.request) ≡ false

-- the changes of all other uploads
abbrev pub changes_without : (ℕ → Bool) → List Accepted → List Accepted
changes_without among changes = filter (λ (c : Accepted). not (among (id_of c))) changes

-- the events of all other uploads
abbrev pub events_without : (ℕ → Bool) → List Event → List Event
events_without among events = filter (λ (e : Event). not (among e.id)) events

-- a book before its first change
pub record IsNew (s : State) : Type 0 where
  pub content : s.content ≡ map.empty
  pub changes : s.journal.accepted ≡ []

-- none of these uploads exists
abbrev pub AreGone : (ℕ → Bool) → Contents → Type 0
AreGone among content = (u : ℕ) → among u ≡ true → map.get content u ≡ None

-- the second book is the first without these uploads
pub record IsWithout (among : ℕ → Bool) (s t : State) : Type 0 where
  pub lanes : t.journal.lanes ≡ s.journal.lanes
  pub closed : t.closed ≡ s.closed
  pub max_size : t.max_size ≡ s.max_size
  pub changes : t.journal.accepted ≡ changes_without among s.journal.accepted
  pub content : (u : ℕ) → among u ≡ false → map.get t.content u ≡ map.get s.content u
  pub gone : AreGone among t.content

-- a shorter log defines the book without the uploads that are left out
abbrev pub ShorterDefines : Type 0
ShorterDefines =
    (among : ℕ → Bool) (s : State) (entries : List Entry)
    → IsNew s → All (JoinsKept among) entries → IsWithout among (replayed s entries) (replayed s (kept among entries))

-- the other uploads are known in both books or in neither
abbrev pub OthersAreKnown : Type 0
OthersAreKnown =
    (among : ℕ → Bool) (s t : State) (u : ℕ)
    → IsWithout among s t → among u ≡ false → is_known t.journal.accepted u ≡ is_known s.journal.accepted u

-- each lane's log is that of the longer log, without the events of the uploads that are left out: the events of the
-- others are the same, with the same numbers, in the same order
abbrev pub LogsAreWithout : Type 0
LogsAreWithout =
    (among : ℕ → Bool) (s t : State) (lane : ℕ)
    → IsWithout among s t → lane_log t.journal lane ≡ events_without among (lane_log s.journal lane)

-- the decision is the same for requests about other uploads that join only other uploads
abbrev pub OthersAreDecidedAlike : Type 0
OthersAreDecidedAlike =
    (among : ℕ → Bool) (s t : State) (r : Request) (id : ℕ) (asked : Asked)
    → IsWithout among s t → is_about among r id ≡ false → list_any among (joined_uploads r) ≡ false
    → decide t r id asked ≡ decide s r id asked

-- ---- uploads that were removed

-- whether the request creates one of these uploads
abbrev pub makes : (ℕ → Bool) → Request → ℕ → Bool
makes among request.Options id = false
makes among (request.Create new) id = among id
makes among (request.Head u) id = false
makes among (request.Patch p) id = false
makes among (request.Delete u) id = false
makes among (request.Get u) id = false

-- the second book is the first without these uploads, which were removed
pub record IsWithoutEnded (among : ℕ → Bool) (s t : State) : Type 0 where
  pub without : IsWithout among s t
  pub ended : AreGone among s.content

-- both books have the same uploads
abbrev pub EndedContentsAreEqual : Type 0
EndedContentsAreEqual = (among : ℕ → Bool) (s t : State) → IsWithoutEnded among s t → t.content ≡ s.content

-- the decision is the same for each request, unless it creates an upload with the id of one that was removed
abbrev pub EndedAreDecidedAlike : Type 0
EndedAreDecidedAlike =
    (among : ℕ → Bool) (s t : State) (r : Request) (id : ℕ) (asked : Asked)
    → IsWithoutEnded among s t → makes among r id ≡ false → decide t r id asked ≡ decide s r id asked

-- the plan is the same for each request
abbrev pub EndedArePlannedAlike : Type 0
EndedArePlannedAlike =
    (among : ℕ → Bool) (s t : State) (r : Request) → IsWithoutEnded among s t → decide_plan t r ≡ decide_plan s r

-- and this stays so, whatever is committed to both books
abbrev pub EndedStayAlike : Type 0
EndedStayAlike =
    (among : ℕ → Bool) (s t : State) (more : List Entry)
    → IsWithoutEnded among s t → All (λ (entry : Entry). makes among entry.request entry.id ≡ false) more
    → IsWithoutEnded among (replayed s more) (replayed t more)

-- by how many events a lane's log is shorter
abbrev pub left_out_events : State → State → ℕ → ℕ
left_out_events s t lane = length (lane_log s.journal lane) - length (lane_log t.journal lane)

-- once all events of a lane's log have been handed over, the same events remain to be handed over from both logs; the
-- number of events handed over from the shorter one is less by those left out
abbrev pub RestIsHandedAlike : Type 0
RestIsHandedAlike =
    (among : ℕ → Bool) (s t : State) (more : List Entry) (lane handed : ℕ)
    → IsWithoutEnded among s t → All (λ (entry : Entry). makes among entry.request entry.id ≡ false) more
    → length (lane_log s.journal lane) ≤ handed
    → drop (handed - left_out_events s t lane) (lane_log (replayed t more).journal lane)
    ≡ drop handed (lane_log (replayed s more).journal lane)

-- once all events of the uploads that are left out have been handed over, the same events remain to be handed over from
-- both logs, however far a lane is with the other events
abbrev pub OthersAreHandedAlike : Type 0
OthersAreHandedAlike =
    (among : ℕ → Bool) (s t : State) (lane handed : ℕ)
    → IsWithout among s t
    → All (λ (e : Event). among e.id ≡ false) (drop handed (lane_log s.journal lane))
    → drop (handed - left_out_events s t lane) (lane_log t.journal lane) ≡ drop handed (lane_log s.journal lane)
