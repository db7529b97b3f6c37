-- How far a book follows a log.
use Rattle.std.specs.Prelude.{◌≡◌, ℕ, Bool, true, false, List, [], ◌∷◌, ◌++◌, length}
use Rattle.up_events.specs.Records.{empty_records}
use Rattle.up_log.specs.declared.entry.Entry.{Entry}
use Rattle.up_machine.specs.State.{State, empty_state}
use Rattle.up_replay.specs.Replay.{replayed, replayed_one}

-- the first entries of a log, and which of them were carried out: all but those for which memory ran out
pub record Following : Type 0 where
  pub entries : List Entry
  pub carried : List Bool

abbrev pub following : List Entry → List Bool → Following
following entries carried = record { entries = entries; carried = carried }

-- one more entry
abbrev pub followed_by : Following → Entry → Bool → Following
followed_by f entry is_carried = following (f.entries ++ entry ∷ []) (f.carried ++ is_carried ∷ [])

-- the entries that were carried out
unfoldable pub carried_of : List Bool → List Entry → List Entry
carried_of [] entries = []
carried_of (c ∷ carried) [] = []
carried_of (true ∷ carried) (entry ∷ entries) = entry ∷ carried_of carried entries
carried_of (false ∷ carried) (entry ∷ entries) = carried_of carried entries

-- a book before its first change, which keeps its changes or counts them
abbrev pub new_book : Bool → ℕ → ℕ → State
new_book keeps lanes max_size = record (empty_state lanes max_size) { journal = record (empty_records lanes) { keeps = keeps } }

-- the book that these entries define; it may have been closed since
abbrev pub IsBookOf : ℕ → ℕ → Following → State → Type 0
IsBookOf lanes max_size f book =
    (keeps : Bool) × (closed : Bool)
    × (book ≡ record (replayed (new_book keeps lanes max_size) (carried_of f.carried f.entries)) { closed = closed })

-- the book that results from those of these entries that were carried out
abbrev pub IsBookAfter : ℕ → ℕ → List Entry → State → Type 0
IsBookAfter lanes max_size before book =
    (carried : List Bool) × (length carried ≡ length before) × IsBookOf lanes max_size (following before carried) book

-- a new book follows nothing yet
abbrev pub NewBooksFollow : Type 0
NewBooksFollow = (keeps : Bool) (lanes max_size : ℕ) → IsBookOf lanes max_size (following [] []) (new_book keeps lanes max_size)

-- a closed book is still the one that the entries define
abbrev pub ClosedBooksFollow : Type 0
ClosedBooksFollow = (lanes max_size : ℕ) (f : Following) (s : State)
    → IsBookOf lanes max_size f s → IsBookOf lanes max_size f (record s { closed = true })

-- an entry is carried out in a book that is not closed
abbrev pub BooksFollow : Type 0
BooksFollow = (lanes max_size : ℕ) (f : Following) (entry : Entry) (s t : State)
    → length f.carried ≡ length f.entries → IsBookOf lanes max_size f s → s.closed ≡ false → t ≡ replayed_one s entry
    → IsBookOf lanes max_size (followed_by f entry true) t

-- an entry is not carried out
abbrev pub BooksPassOver : Type 0
BooksPassOver = (lanes max_size : ℕ) (f : Following) (entry : Entry) (s : State)
    → length f.carried ≡ length f.entries → IsBookOf lanes max_size f s
    → IsBookOf lanes max_size (followed_by f entry false) s
