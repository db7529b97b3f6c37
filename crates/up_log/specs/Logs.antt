-- The state of a log, and of a log that is being read.
use Rattle.std.specs.Prelude.{◌≡◌, ℕ, ◌-◌, List, [], ◌∷◌, ◌++◌, length, Bool, true, false, IsTrue, Option, Some, None, Result, Ok, Err}
use Rattle.sqlite_disk.specs.Disk.{Only}
use Rattle.sqlite_disk.specs.declared.Disk.{Ghosts}
use Rattle.up_log.specs.declared.appending.Log.{Log}
use Rattle.up_log.specs.declared.entry.Entry.{Entry}
use Rattle.up_log.specs.declared.fault.LogFault.{LogFault}
use Rattle.up_log.specs.declared.fault.LogFault.TheVariants as fault
use Rattle.up_log.specs.declared.reader.LogReader.{LogReader}
use Rattle.up_log.specs.declared.reader.Refused.{Refused}
use Rattle.up_log.specs.declared.setup.Setup.{Setup}
use Rattle.up_log.specs.Blocks.{blocks, written, IsAtRest, IsClosed}
use Rattle.up_log.specs.Held.{batch_back}
use Rattle.up_log.specs.Spelling.{batch}
use Rattle.up_places.specs.Places.{Content}

-- the file is at rest, the place of its gate is known, all of the file is on the disk, and the disk can be used
pub record IsSettled {D : Type 0} (g : Ghosts D) (log : Log D) (setup : Setup) (batches : List (List Entry)) : Type 0 where
  pub file : IsAtRest setup (g.seen log.device) batches
  pub place : log.gate ≡ length (written setup batches)
  pub durable : Only (g.seen log.device) (g.may_leave log.device)
  pub usable : IsTrue (g.is_usable log.device)

-- a file with the batches that were read and those that are left, with its length and the place of the next block
pub record IsFileReadUpTo (setup : Setup) (file : List ℕ) (gate len : ℕ) (read left : List (List Entry)) : Type 0 where
  pub back : List ℕ
  pub whole : file ≡ written setup read ++ (blocks left ++ back)
  pub closed : IsClosed back
  pub place : gate ≡ length (written setup read)
  pub len_is : len ≡ length file

-- these batches were read, these are left, and all of the file is on the disk
abbrev pub IsReaderAt : {D : Type 0} → Ghosts D → LogReader D → Setup → List (List Entry) → List (List Entry) → Type 0
IsReaderAt g reader setup read left =
    IsFileReadUpTo setup (g.seen reader.device) reader.gate reader.len read left × Only (g.seen reader.device) (g.may_leave reader.device)

-- the file is not the log of a server with this setup, or is damaged
abbrev pub IsUnusableLog : LogFault → Type 0
IsUnusableLog fault.Foreign = Unit {0}
IsUnusableLog (fault.Version version) = Unit {0}
IsUnusableLog (fault.Lanes made asked) = Unit {0}
IsUnusableLog (fault.MaxSize made asked) = Unit {0}
IsUnusableLog (fault.Damaged place) = Unit {0}
IsUnusableLog other = ⊥

-- the number of bytes of the file that were not read
abbrev pub unread : {D : Type 0} → LogReader D → ℕ
unread reader = reader.len - reader.gate

-- whether there is a first batch
abbrev pub NextIs : List (List Entry) → Bool → Type 0
NextIs left true = (first : List Entry) × (others : List (List Entry)) × (left ≡ first ∷ others)
NextIs left false = left ≡ []

abbrev pub IsDamaged : LogFault → Type 0
IsDamaged (fault.Damaged place) = Unit {0}
IsDamaged other = ⊥

-- damage is at this place
abbrev pub IsDamagedAt : ℕ → LogFault → Type 0
IsDamagedAt place (fault.Damaged at) = at ≡ place
IsDamagedAt place other = Unit {0}

-- the size of this batch, or an error that is not damage
abbrev pub HasSize : List Entry → Result ℕ LogFault → Type 0
HasSize first (Ok size) = size ≡ length (batch first)
HasSize first (Err e) = IsDamaged e → ⊥

-- this batch, with the bytes that data files of this content have, or an error that is not damage
abbrev pub IsBatchRead : Content → List Entry → Result (List Entry) LogFault → Type 0
IsBatchRead content first (Ok entries) = entries ≡ batch_back content first
IsBatchRead content first (Err e) = IsDamaged e → ⊥

-- the first of the batches that are left, as it is read, with the place after its block; none if none is left; or an
-- error that is not damage
abbrev pub ReadsAt : Content → Setup → List (List Entry) → List (List Entry) → Result (Option (List Entry × ℕ)) LogFault → Type 0
ReadsAt content setup read left (Ok None) = left ≡ []
ReadsAt content setup read left (Ok (Some found)) =
    (first : List Entry) × (others : List (List Entry)) × (left ≡ first ∷ others) × (found.0 ≡ batch_back content first)
    × (found.1 ≡ length (written setup (read ++ first ∷ [])))
ReadsAt content setup read left (Err e) = IsDamaged e → ⊥

-- this batch, as it is read, and this place, or an error that is not damage
abbrev pub BlockIs : Content → List Entry → ℕ → Result (List Entry × ℕ) LogFault → Type 0
BlockIs content first end (Ok block) = (block.0 ≡ batch_back content first) × (block.1 ≡ end)
BlockIs content first end (Err e) = IsDamaged e → ⊥

module _ {D : Type 0} (g : Ghosts D) where
  -- no wrong data from the disk was taken as correct
  abbrev pub IsCleanReader : LogReader D → Type 0
  IsCleanReader reader = IsTrue (g.is_clean reader.device)

  abbrev pub IsCleanLog : Log D → Type 0
  IsCleanLog log = IsTrue (g.is_clean log.device)

  -- the first of the batches that are left, as it is read; none if none is left; or an error that is not damage
  abbrev pub ReadsNext : Content → LogReader D → Setup → List (List Entry) → List (List Entry) → Result (Option (List Entry)) LogFault → Type 0
  ReadsNext content new setup read left (Ok None) = (left ≡ []) × IsReaderAt g new setup read left
  ReadsNext content new setup read left (Ok (Some entries)) =
      (first : List Entry) × (others : List (List Entry)) × (left ≡ first ∷ others) × (entries ≡ batch_back content first)
      × IsReaderAt g new setup (read ++ first ∷ []) others
  ReadsNext content new setup read left (Err e) = (IsDamaged e → ⊥) × IsReaderAt g new setup read left

  -- what a crash may leave of the file, if the disk read it correctly
  abbrev pub reader_leaves : Result (LogReader D) (Refused D) → List ℕ → Type 0
  reader_leaves (Ok reader) c = IsCleanReader reader × g.may_leave reader.device c
  reader_leaves (Err refused) c = IsTrue (g.is_clean refused.device) × g.may_leave refused.device c

  abbrev pub log_leaves : Result (Log D) (Refused D) → List ℕ → Type 0
  log_leaves (Ok log) c = IsCleanLog log × g.may_leave log.device c
  log_leaves (Err refused) c = IsTrue (g.is_clean refused.device) × g.may_leave refused.device c
