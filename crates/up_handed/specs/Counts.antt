-- A count, as contracts describe it.
use Rattle.std.specs.Prelude.{ℕ, Result, Ok, Err}
use Rattle.sqlite_disk.specs.declared.Disk.{Ghosts}
use Rattle.up_handed.specs.declared.handed.Handed.{Handed}
use Rattle.up_handed.specs.declared.handed.Refused.{Refused}

module _ {D : Type 0} {g : Ghosts D} where
  -- the number
  abbrev pub count_of : Handed D g → ℕ
  count_of handed = handed.count

  -- the file
  abbrev pub device_of : Handed D g → D
  device_of handed = handed.device

  -- the file, whether it was opened or not
  abbrev pub file_of : Result (Handed D g) (Refused D) → D
  file_of (Ok handed) = handed.device
  file_of (Err refused) = refused.device
