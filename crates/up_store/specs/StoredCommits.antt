-- What the commits of a seat may be if each change is written to a log first.
use Rattle.std.specs.Prelude.{◌≡◌, ◌⊎◌, ℕ, true, List, [], ◌∷◌, ◌++◌, Result, Err}
use mathlib.Core.List.{IsPrefix}
use Rattle.up_headers.specs.declared.request.Request.{Request}
use Rattle.up_log.specs.declared.entry.Entry.{Entry}
use Rattle.up_machine.specs.Decision.{is_refusal}
use Rattle.up_machine.specs.declared.plan.Asked.{Asked}
use Rattle.up_machine.specs.declared.plan.Done.{Done}
use Rattle.up_machine.specs.declared.refusal.Refusal.{Refusal}
use Rattle.up_machine.specs.declared.refusal.Refusal.TheVariants as refusal
use Rattle.up_queue.specs.EndViews.{QueueId}
use Rattle.up_replay.specs.Replay.{asked_of}
use Rattle.up_dispatch.specs.Keepers.{ConversationPlans, SeatState, UnloggedCommits}
use Rattle.up_dispatch.specs.Keeps.{Committing, ClosureAnswers, Keeping, keeping}
use Rattle.up_dispatch.specs.Tied.{CommitsAfter}

-- the entry has this request, with its id and with what the closures answered to it
abbrev pub Says : Entry → Request → ℕ → Asked → Type 0
Says entry request id asked = (entry.request ≡ request) × (entry.id ≡ id) × (asked_of entry.consent ≡ asked)

-- the change is an entry of the log, which is known from now on with all entries before it; those that were known are
-- among these. The board decided on it directly after the entries before it
abbrev pub IsInTurn : (ℕ → QueueId) → ℕ → ℕ → Committing SeatState
IsInTurn queue lanes max_size old request id asked new result =
    (entry : Entry) × (before : List Entry) × Says entry request id asked
    × IsPrefix old.known before × (new.known ≡ before ++ entry ∷ [])
    × CommitsAfter queue lanes max_size before old.count entry new.count result

-- a closure refuses the change, so it has no place in the log
abbrev pub IsRefusedFirst : (ℕ → QueueId) → ℕ → ℕ → Committing SeatState
IsRefusedFirst queue lanes max_size old request id asked new result =
    (is_refusal asked ≡ true) × UnloggedCommits queue lanes max_size old request id asked new result

-- the change was not written, so the board did not see it; the answer is that memory ran out
abbrev pub IsNotMade : SeatState → SeatState → Result Done Refusal → Type 0
IsNotMade old new result = (result ≡ Err refusal.NoMemory) × (new ≡ old)

-- the commits of a lawful board that has decided on all changes from the seat, in the order of the log; or the board did
-- not see the change
abbrev pub StoredCommits : (ℕ → QueueId) → ℕ → ℕ → Committing SeatState
StoredCommits queue lanes max_size old request id asked new result =
    IsInTurn queue lanes max_size old request id asked new result
    ⊎ (IsRefusedFirst queue lanes max_size old request id asked new result ⊎ IsNotMade old new result)

-- such a seat as a keeper, with the plans of a seat and with these commits
abbrev pub by_stored_seat : (ℕ → QueueId) → ℕ → ℕ → ClosureAnswers → Keeping SeatState
by_stored_seat queue lanes max_size gives =
    keeping (ConversationPlans queue lanes max_size) (StoredCommits queue lanes max_size) gives
