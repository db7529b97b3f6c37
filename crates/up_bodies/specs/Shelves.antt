-- What is put into data files, what was read of them, and what a crash leaves of them.
use Rattle.std.specs.Prelude.{◌≡◌, ℕ, Bool, true, nat_le, List, Option, All, IfSome}
use Rattle.std.specs.Option.{IsSomeAnd, option_map_or}
use Rattle.sqlite_disk.specs.declared.Disk.{Ghosts}
use Rattle.up_bodies.specs.Blocks.{HoldsSpot, WereTrue}
use Rattle.up_bodies.specs.declared.data_file.DataFile.{DataFile}
use Rattle.up_places.specs.Places.{Spot}
use Rattle.up_bodies.specs.declared.open_file.OpenFile.{OpenFile}

-- a body is put into a file if it isn't known to have fewer bytes than so many
abbrev pub takes_from : ℕ → Option ℕ → Bool
takes_from least size = option_map_or (λ n. nat_le least n) size true

module _ {D : Type 0} (g : Ghosts D) where
  -- each read of the file so far returned what the file holds, and it holds each place that was asked for
  abbrev pub IsTrueFile : OpenFile D → Type 0
  IsTrueFile file = WereTrue g file.file.device file.file.seed file.asked.items

  -- the same of files that were closed, and of the one that is open, if there is one
  abbrev pub AreTrueFiles : List (OpenFile D) → Option (OpenFile D) → Type 0
  AreTrueFiles closed current = All IsTrueFile closed × IfSome current IsTrueFile

  -- every crash leaves the bytes of the place in the file of the last body
  abbrev pub IsSettledPut : Option (DataFile D g) → Spot → Type 0
  IsSettledPut last spot = IsSomeAnd last (λ file.
      (spot.file ≡ file.place.file) × ((c : List ℕ) → g.may_leave file.file.device c → HoldsSpot c file.file.seed spot))
