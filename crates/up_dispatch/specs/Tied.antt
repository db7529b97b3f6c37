-- The value under the board's lock: a board, and how far its book follows a log.
use Rattle.std.specs.Prelude.{◌≡◌, ℕ, Bool, true, false, List, Result, length}
use Rattle.up_events.specs.Records.{lane_log}
use Rattle.up_commits.specs.Follows.{Following, IsBookAfter, IsBookOf, new_book}
use Rattle.up_log.specs.declared.entry.Entry.{Entry}
use Rattle.up_machine.specs.State.{State}
use Rattle.up_machine.specs.declared.plan.Done.{Done}
use Rattle.up_machine.specs.declared.refusal.Refusal.{Refusal}
use Rattle.up_queue.specs.EndViews.{QueueId}
use Rattle.up_replay.specs.Replay.{asked_of}
use Rattle.up_dispatch.specs.Commits.{IsCommitOf}
use Rattle.up_dispatch.specs.BoardView.{BoardView}

-- the board, the entries that it follows, and whether it follows them still
pub record Tied : Type 0 where
  pub board : BoardView
  pub follows : Following
  pub is_tied : Bool

abbrev pub tied : BoardView → Following → Bool → Tied
tied board follows is_tied = record { board = board; follows = follows; is_tied = is_tied }

-- for each entry it is known whether it was carried out, and as long as the board follows the entries, its book is the
-- one that they define
abbrev pub IsTied : ℕ → ℕ → BoardView → Following → Bool → Type 0
IsTied lanes max_size board follows is_tied =
    (length follows.carried ≡ length follows.entries) × (is_tied ≡ true → IsBookOf lanes max_size follows board.book)

-- nothing has changed in the book yet
abbrev pub IsNewBook : ℕ → ℕ → State → Type 0
IsNewBook lanes max_size book = (keeps : Bool) × (book ≡ new_book keeps lanes max_size)

-- unless the board was closed, its book was the one that these entries define
abbrev pub IsDecidedAfter : ℕ → ℕ → List Entry → State → Type 0
IsDecidedAfter lanes max_size before book = book.closed ≡ false → IsBookAfter lanes max_size before book

-- in the book that results from those of these entries that were carried out, the log of the lane has this many events
abbrev pub HasLogged : ℕ → ℕ → List Entry → ℕ → ℕ → Type 0
HasLogged lanes max_size entries lane count =
    (book : State) × IsBookAfter lanes max_size entries book × (count ≡ length (lane_log book.journal lane))

-- the commit of an entry to a lawful board, which has decided on these entries before, in their order
abbrev pub CommitsAfter : (ℕ → QueueId) → ℕ → ℕ → List Entry → ℕ → Entry → ℕ → Result Done Refusal → Type 0
CommitsAfter queue lanes max_size before count entry after_it result =
    (old : BoardView) × (new : BoardView)
    × IsCommitOf queue lanes max_size old new count after_it entry.request entry.id (asked_of entry.consent) result
    × IsDecidedAfter lanes max_size before old.book
