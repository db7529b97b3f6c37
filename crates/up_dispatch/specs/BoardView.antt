-- The value under the board's lock.
use Rattle.std.specs.Prelude.{◌≡◌, ℕ, ◌+◌, ◌<◌, ◌≤◌, Bool, true, List, length, map, take}
use Rattle.up_events.specs.Records.{first_of, lane_log}
use Rattle.up_machine.specs.State.{State, recalled}
use Rattle.up_machine.specs.Fits.{IsSoundBook}
use Rattle.up_queue.specs.Line.{items_if}
use Rattle.up_queue.specs.EndViews.{QueueId, PutEndView}
use Rattle.up_dispatch.specs.Lists.{EachAt}
use Rattle.up_dispatch.specs.QueuedUpTo.{IsQueuedUpTo}
use Rattle.up_dispatch.specs.declared.queue_cursor.QueueCursor.{QueueCursor}
use Rattle.up_dispatch.specs.declared.parts.TheConstants.{MAX_SEATS}

-- the book, what was put into each lane's queue, how many seats were given out, and how many changes the ledger counts
pub record BoardView : Type 0 where
  pub book : State
  pub ends : List PutEndView
  pub given : ℕ
  pub total : ℕ

abbrev pub ends_of : List QueueCursor → List PutEndView
ends_of cursors = map (λ (f : QueueCursor). f.put_end) cursors

-- how much the journal has forgotten is not part of the value: it forgets only what was put
abbrev pub board_view : State → List QueueCursor → ℕ → ℕ → BoardView
board_view book cursors given total = record { book = recalled book; ends = ends_of cursors; given = given; total = total }

-- the book is sound, has this many lanes, at least one, and this size limit; a prefix of each lane's log was put into
-- its queue, with all events that the log has forgotten; the ledger counts the changes; the share of the seats that are
-- left is kept here, and counts nothing
pub record IsLawfulBoard (queue : ℕ → QueueId) (count limit : ℕ) (book : State) (cursors : List QueueCursor)
    (given total parts amount : ℕ) : Type 0 where
  pub sound : IsSoundBook book
  pub named : book.journal.lanes ≡ count
  pub sized : book.max_size ≡ limit
  pub some : 0 < book.journal.lanes
  pub lanes : length cursors ≡ book.journal.lanes
  pub queued : EachAt (λ k (f : QueueCursor). IsQueuedUpTo (queue k) (lane_log book.journal k) book.closed f) cursors
  pub behind : EachAt (λ k (f : QueueCursor). first_of book.journal k ≤ f.position) cursors
  pub counted : total ≡ length book.journal.accepted
  pub seats : parts + given ≡ MAX_SEATS + 1
  pub most : given ≤ MAX_SEATS
  pub none : amount ≡ 0

-- a prefix of the lane's log was put, and the end only after the whole log, once the book is closed
abbrev pub IsPrefixOfLog : State → ℕ → PutEndView → Type 0
IsPrefixOfLog book lane end =
    let log = lane_log book.journal lane in
    (position : ℕ) × (ended : Bool) × (end.put ≡ items_if (take position log) ended) × (position ≤ length log) × (ended ≡ true → (book.closed ≡ true) × (position ≡ length log))

-- a lawful board, as callers see it
pub record IsLawfulBoardView (queue : ℕ → QueueId) (count limit : ℕ) (s : BoardView) : Type 0 where
  pub sound : IsSoundBook s.book
  pub named : s.book.journal.lanes ≡ count
  pub sized : s.book.max_size ≡ limit
  pub lanes : length s.ends ≡ s.book.journal.lanes
  pub queues : EachAt (λ k (e : PutEndView). e.queue ≡ queue k) s.ends
  pub puts : EachAt (λ k (e : PutEndView). IsPrefixOfLog s.book k e) s.ends
  pub counted : s.total ≡ length s.book.journal.accepted
