-- How far a line of changes has come.
use Rattle.std.specs.Prelude.{◌≡◌, ℕ, zero, suc, ◌+◌, ◌^◌, ◌-◌, ◌<◌, ◌≤◌, Bool, true, false, List, [], ◌∷◌, ◌++◌, length, min, All}
use Rattle.up_headers.specs.declared.request.Request.TheVariants.{Delete}
use Rattle.up_log.specs.declared.entry.Entry.{Entry}
use Rattle.up_tie.specs.Ties.{Span}

-- the changes that were drawn, and those of them that nobody has begun to write; the number of the change whose turn
-- comes next, how many from there on are on the disk, and how many after these could not be written; whether a batch is
-- being written, whether nobody may begin to write, whether no change is made any more, and whether only removals are
-- drawn; and the numbers of entries that had their turn, in the current log and in the history of what was written
pub record Progress : Type 0 where
  pub drawn : List Entry
  pub waiting : List Entry
  pub done : ℕ
  pub count : ℕ
  pub lost : ℕ
  pub is_writing : Bool
  pub is_held : Bool
  pub is_over : Bool
  pub is_for_removals : Bool
  pub place : ℕ
  pub decided : ℕ

-- ys ends with xs
abbrev pub IsSuffix : List Entry → List Entry → Type 0
IsSuffix xs ys = (before : List Entry) × (ys ≡ before ++ xs)

-- it removes an upload
abbrev pub IsRemoval : Entry → Type 0
IsRemoval entry = (id : ℕ) × (entry.request ≡ Delete id)

-- if only removals are drawn, these are removals
abbrev pub AreDrawn : Bool → List Entry → Type 0
AreDrawn is_for_removals entries = is_for_removals ≡ true → All IsRemoval entries

-- all changes before it had their turn, and it is known to be on the disk or lost
abbrev pub HasTurn : Progress → ℕ → Type 0
HasTurn line number = (line.done ≡ number) × (0 < line.count + line.lost)

-- it could not be written
abbrev pub IsLost : Progress → ℕ → Type 0
IsLost line number = (line.done + line.count ≤ number) × (number < line.done + (line.count + line.lost))

-- one more was drawn, and waits after the others
abbrev pub has_drawn : Progress → Entry → Progress
has_drawn line change = record line { drawn = line.drawn ++ change ∷ []; waiting = line.waiting ++ change ∷ [] }

-- the sum of two counts, at most the largest count
abbrev pub sum_within : ℕ → ℕ → ℕ
sum_within m n = min (2 ^ 64 - 1) (m + n)

-- the next count, at most the largest
abbrev pub one_more : ℕ → ℕ
one_more n = sum_within n 1

-- the number of the first change that isn't known to be on the disk or lost
abbrev pub first_unknown : Progress → ℕ
first_unknown line = sum_within line.done (sum_within line.count line.lost)

-- a change that could not be written had its turn, if there is one
abbrev pub has_passed : Progress → ℕ → Progress
has_passed line zero = line
has_passed line (suc lost) = record line { done = one_more line.done; lost = lost }

-- the next one had its turn: an entry of the log, or else a change that could not be written
abbrev pub has_taken : Progress → ℕ → Progress
has_taken line zero = has_passed line line.lost
has_taken line (suc count) =
    record line { done = line.done + 1; count = count; place = one_more line.place; decided = line.decided + 1 }

abbrev pub has_had_turn : Progress → Progress
has_had_turn line = has_taken line line.count

-- none of those that wait is written, and all that were drawn and are not on the disk are lost
abbrev pub has_lost_rest : Progress → Progress
has_lost_rest line = record line { waiting = []; lost = length line.drawn - line.done - line.count }

-- a batch was taken from the beginning of those that wait, and is being written
abbrev pub Takes : Progress → Progress → List Entry → Type 0
Takes old new batch = old ≡ record new { waiting = batch ++ new.waiting; is_writing = false }

-- somebody may begin to write: nobody writes, nobody holds the line up, and no change that was lost waits for its turn
abbrev pub MayWrite : Progress → Type 0
MayWrite line = (line.is_writing ≡ false) × (line.is_held ≡ false) × (line.lost ≡ 0)

-- what was written comes directly after what is known to be on the disk
abbrev pub Places : Progress → Span → Type 0
Places line written = (written.place ≡ line.decided + line.count) × (written.number ≡ line.done + line.count)

-- so many more are on the disk, and nobody writes
abbrev pub has_written : Progress → ℕ → Progress
has_written line count = record line { count = line.count + count; is_writing = false }
