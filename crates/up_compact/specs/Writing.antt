-- Writing a shorter log.
use Rattle.std.specs.Prelude.{◌≡◌, ℕ, ◌+◌, Bool, List, [], ◌∷◌, length, if◌then◌else◌, ◌++◌, false}
use Rattle.sqlite_disk.specs.declared.Disk.{Ghosts}
use Rattle.std.specs.List.{All}
use Rattle.up_compact.specs.Shorter.{AreGone, IsNew, IsWithout, IsWithoutEnded, JoinsKept, kept, makes}
use Rattle.up_compact.specs.declared.writing.Progress.{Progress}
use Rattle.up_log.specs.Blocks.{written}
use Rattle.up_log.specs.Logs.{IsSettled}
use Rattle.up_log.specs.declared.appending.Log.{Log}
use Rattle.up_log.specs.declared.entry.Entry.{Entry}
use Rattle.up_log.specs.declared.setup.Setup.{Setup}
use Rattle.up_machine.specs.State.{State}
use Rattle.up_replay.specs.Replay.{entries_of, replayed}

-- of the entries from this place of the log on, those that were carried out: all but those whose places are void
abbrev pub carried_out : (ℕ → Bool) → ℕ → List Entry → List Entry
carried_out is_void place [] = []
carried_out is_void place (entry ∷ entries) =
    if is_void place then carried_out is_void (place + 1) entries else entry ∷ carried_out is_void (place + 1) entries

-- all of these entries are on the disk, and no others
pub record HasEntries {D : Type 0} (g : Ghosts D) (log : Log D) (setup : Setup) (entries : List Entry) : Type 0 where
  pub batches : List (List Entry)
  pub settled : IsSettled g log setup batches
  pub are : entries_of batches ≡ entries

-- these batches of a log were processed so far
abbrev pub IsBehind : Progress → Setup → List (List Entry) → Type 0
IsBehind progress setup read =
    (progress.place ≡ length (written setup read)) × (progress.count ≡ length (entries_of read))

-- the entries of these batches that stay: those that were carried out, and are not about these uploads
abbrev pub staying : (ℕ → Bool) → (ℕ → Bool) → List (List Entry) → List Entry
staying is_void among batches = kept among (carried_out is_void 0 (entries_of batches))

-- what was written defines the book without these uploads, if no entry that stays creates a final upload with one of
-- them as a part
abbrev pub WrittenDefines : Type 0
WrittenDefines =
    (is_void among : ℕ → Bool) (s : State) (batches : List (List Entry))
    → IsNew s → All (JoinsKept among) (entries_of batches)
    → IsWithout among (replayed s (carried_out is_void 0 (entries_of batches)))
    (replayed s (staying is_void among batches))

-- and this stays so while the log grows: if the uploads were removed after some batches, and no later entry creates an
-- upload with the id of one of them, then what was written of all batches defines the book without these uploads
abbrev pub WrittenGoesOn : Type 0
WrittenGoesOn =
    (is_void among : ℕ → Bool) (s : State) (read left : List (List Entry))
    → IsNew s → All (JoinsKept among) (entries_of read)
    → AreGone among (replayed s (carried_out is_void 0 (entries_of read))).content
    → All (λ (entry : Entry). makes among entry.request entry.id ≡ false)
    (carried_out is_void (length (entries_of read)) (entries_of left))
    → IsWithoutEnded among (replayed s (carried_out is_void 0 (entries_of (read ++ left))))
    (replayed s (staying is_void among (read ++ left)))
