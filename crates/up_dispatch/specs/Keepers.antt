-- What a keeper's plans and commits may be.
use Rattle.std.specs.Prelude.{◌≡◌, ◌≤◌, ℕ, Result, Ok, Err, List, length}
use Rattle.up_headers.specs.declared.request.Request.{Request}
use Rattle.up_log.specs.declared.entry.Entry.{Entry}
use Rattle.up_machine.specs.Decision.{IsExpectedOrNoMemory, decide, decide_plan}
use Rattle.up_machine.specs.State.{State, after}
use Rattle.up_machine.specs.declared.plan.Done.{Done}
use Rattle.up_machine.specs.declared.refusal.Refusal.{Refusal}
use Rattle.up_queue.specs.EndViews.{QueueId}
use Rattle.up_dispatch.specs.Commits.{IsCommitOf}
use Rattle.up_dispatch.specs.Keeps.{Committing, ClosureAnswers, Keeping, Planning, keeping}
use Rattle.up_dispatch.specs.BoardView.{BoardView, IsLawfulBoardView}

-- the plans of a book
abbrev pub BookPlans : Planning State
BookPlans s request result = IsExpectedOrNoMemory result (decide_plan s request)

-- what a commit leaves of a book: the change is carried out, or nothing changes
abbrev pub BookIsMadeOrUnchanged : State → Request → ℕ → State → Result Done Refusal → Type 0
BookIsMadeOrUnchanged s request id t (Ok done) = t ≡ after s request id done.change
BookIsMadeOrUnchanged s request id t (Err refusal) = t ≡ s

-- the commits of a book
abbrev pub BookCommits : Committing State
BookCommits s request id asked t result = IsExpectedOrNoMemory result (decide s request id asked) × BookIsMadeOrUnchanged s request id t result

-- a book as a keeper
abbrev pub by_book : ClosureAnswers → Keeping State
by_book gives = keeping BookPlans BookCommits gives

-- the plans of some lawful board with this many lanes and this size limit, which has all changes made from the seat
abbrev pub SeatPlans : (ℕ → QueueId) → ℕ → ℕ → Planning ℕ
SeatPlans queue lanes max_size count request result =
    (s : BoardView) × IsLawfulBoardView queue lanes max_size s × (count ≤ length s.book.journal.accepted)
    × IsExpectedOrNoMemory result (decide_plan s.book request)

-- the commits of such a board
abbrev pub SeatCommits : (ℕ → QueueId) → ℕ → ℕ → Committing ℕ
SeatCommits queue lanes max_size count request id asked after_it result =
    (old : BoardView) × (new : BoardView) × IsCommitOf queue lanes max_size old new count after_it request id asked result

-- in a conversation: how many changes were made from its seat, and the entries of the history that the board follows, up
-- to the last one that the board decided on in the conversation
pub record SeatState : Type 0 where
  pub count : ℕ
  pub known : List Entry

abbrev pub seat_state : ℕ → List Entry → SeatState
seat_state count known = record { count = count; known = known }

-- the plans of a seat in a conversation
abbrev pub ConversationPlans : (ℕ → QueueId) → ℕ → ℕ → Planning SeatState
ConversationPlans queue lanes max_size old request result = SeatPlans queue lanes max_size old.count request result

-- the commits of a seat that are not entries of a history
abbrev pub UnloggedCommits : (ℕ → QueueId) → ℕ → ℕ → Committing SeatState
UnloggedCommits queue lanes max_size old request id asked new result =
    SeatCommits queue lanes max_size old.count request id asked new.count result × (new.known ≡ old.known)

-- a seat of a board that follows no history as a keeper
abbrev pub by_seat : (ℕ → QueueId) → ℕ → ℕ → ClosureAnswers → Keeping SeatState
by_seat queue lanes max_size gives = keeping (ConversationPlans queue lanes max_size) (UnloggedCommits queue lanes max_size) gives
