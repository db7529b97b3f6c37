-- What ties a log, and what is on its disk, to histories.
use Rattle.std.specs.Prelude.{◌≡◌, ◌⊎◌, ◌<◌, ◌+◌, ℕ, Bool, false, List, IsTrue, Some, slice_get}
use Rattle.sqlite_disk.specs.declared.Disk.{Ghosts}
use Rattle.up_log.specs.Held.{AreHeld}
use Rattle.up_log.specs.Logs.{IsCleanLog, IsCleanReader, IsReaderAt, IsSettled}
use Rattle.up_log.specs.declared.appending.Log.{Log}
use Rattle.up_log.specs.declared.entry.Entry.{Entry}
use Rattle.up_log.specs.declared.reader.LogReader.{LogReader}
use Rattle.up_log.specs.declared.setup.Setup.{Setup}
use Rattle.up_places.specs.Places.{Content}
use Rattle.up_replay.specs.Replay.{entries_of}

-- all of the log is on the disk, in batches that satisfy P; or a call of the log failed, and it accepts no more
-- batches. This depends on a premise, and on a disk that returned no wrong data
abbrev pub IsSettledAs : {D : Type 0} → Ghosts D → Log D → Setup → Type 0 → (List (List Entry) → Type 0) → Type 0
IsSettledAs g log setup premise P =
    premise → IsCleanLog g log → IsTrue log.is_broken ⊎ ((batches : List (List Entry)) × IsSettled g log setup batches × P batches)

-- the batches of the log contain these entries
abbrev pub LogContains : {D : Type 0} → Ghosts D → Log D → Setup → Type 0 → List Entry → Type 0
LogContains g log setup premise entries = IsSettledAs g log setup premise (λ batches. entries_of batches ≡ entries)

-- of a log that is being read, these entries were read; data files of this content hold what the others name
abbrev pub HasRead : {D : Type 0} → Ghosts D → Content → LogReader D → Setup → Type 0 → List Entry → Type 0
HasRead g content reader setup premise entries =
    premise → IsCleanReader g reader → (read : List (List Entry)) × (left : List (List Entry)) × IsReaderAt g reader setup read left
    × AreHeld content left × (entries_of read ≡ entries)

-- a log, the entries that were written to it, and whether it is known to contain exactly these
pub record TiedLog (D : Type 0) : Type 0 where
  pub log : Log D
  pub entries : List Entry
  pub is_tied : Bool

-- a log that is not known to contain exactly these entries
abbrev pub untied : {D : Type 0} → Log D → List Entry → TiedLog D
untied log entries = record { log = log; entries = entries; is_tied = false }

-- the entries that were read from a log, and how many of its bytes were not
pub record ReadSoFar : Type 0 where
  pub entries : List Entry
  pub unread : ℕ

-- changes that are written together, and the number of the first
pub record Changes : Type 0 where
  pub entries : List Entry
  pub first : ℕ

-- so many changes, with the numbers from `number` on, are so many entries, from `place` on
pub record Span : Type 0 where
  pub place : ℕ
  pub number : ℕ
  pub count : ℕ

-- the front has these entries from this number on
abbrev pub HasFrom : List Entry → ℕ → List Entry → Type 0
HasFrom front first entries = (i : ℕ) (e : Entry) → slice_get entries i ≡ Some e → slice_get front (first + i) ≡ Some e

-- for each number of the span, the two fronts have the same entry: at the place, and at the number
abbrev pub AreSame : Span → List Entry → List Entry → Type 0
AreSame span entries changes =
    (i : ℕ) → i < span.count → (e : Entry) × (slice_get entries (span.place + i) ≡ Some e) × (slice_get changes (span.number + i) ≡ Some e)
