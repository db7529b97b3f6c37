-- Blocks in a file, each with its checksum.
use Rattle.std.specs.Prelude.{◌≡◌, ℕ, All, ◌+◌, ◌-◌, ◌*◌, ◌/◌, ◌%◌, ◌<◌, ◌≤◌, List, [], ◌∷◌, ◌++◌, length, take, drop, false, IsTrue}
use Rattle.std.specs.Int.{w32, w64, to_le_bytes}
use Rattle.sqlite_disk.specs.Disk.{Holds}
use Rattle.sqlite_disk.specs.declared.Disk.{Ghosts}
use Rattle.sqlite_wal.specs.Format.{checksum}
use Rattle.up_places.specs.Places.{Spot, part_at}

-- how many zeros make this number of bytes a multiple of 8
abbrev pub pad_of : ℕ → ℕ
pad_of n = (8 - n % 8) % 8

abbrev pub zeros : List ℕ
zeros = 0 ∷ 0 ∷ 0 ∷ 0 ∷ 0 ∷ 0 ∷ 0 ∷ []

-- the bytes, and zeros up to a multiple of 8
abbrev pub padded : List ℕ → List ℕ
padded bytes = bytes ++ take (pad_of (length bytes)) zeros

-- the checksum of bytes at this place of a file whose checksums begin with the seed
unfoldable pub sum_of : ℕ × ℕ → ℕ → List ℕ → ℕ × ℕ
sum_of seed at bytes = checksum false (checksum false seed (to_le_bytes w64 at)) bytes

-- a checksum in eight bytes
abbrev pub sum_text : ℕ × ℕ → List ℕ
sum_text sum = to_le_bytes w32 sum.0 ++ to_le_bytes w32 sum.1

-- the block of these bytes at this place
abbrev pub block : ℕ × ℕ → ℕ → List ℕ → List ℕ
block seed at bytes = padded bytes ++ sum_text (sum_of seed at (padded bytes))

-- the last eight bytes are the checksum of those before them
abbrev pub IsSound : ℕ × ℕ → ℕ → List ℕ → Type 0
IsSound seed at bytes = drop (length bytes - 8) bytes ≡ sum_text (sum_of seed at (take (length bytes - 8) bytes))

-- how many bytes the block of so many bytes takes
abbrev pub block_len : ℕ → ℕ
block_len n = n + pad_of n + 8

-- the file has these bytes from this place on, in blocks
abbrev pub HoldsBlocks : List ℕ → ℕ × ℕ → ℕ → List ℕ → Type 0
HoldsBlocks file seed at bytes =
    (i : ℕ) → 65_536 * i < length bytes → Holds file (at + 65_544 * i) (block seed (at + 65_544 * i) (part_at i bytes))

-- the file has the bytes of the place
abbrev pub HoldsSpot : List ℕ → ℕ × ℕ → Spot → Type 0
HoldsSpot file seed spot = HoldsBlocks file seed spot.at spot.bytes

-- the blocks of the bytes from this place on end here or before
abbrev pub EndBy : ℕ → List ℕ → ℕ → Type 0
EndBy at bytes end = (i : ℕ) → 65_536 * i < length bytes → at + 65_544 * i + block_len (length (part_at i bytes)) ≤ end

-- these bytes from this place on are whole blocks, of which the last ends here
pub record AreWhole (at : ℕ) (bytes : List ℕ) (end : ℕ) : Type 0 where
  pub count : ℕ
  pub whole : length bytes ≡ 65_536 * count
  pub place : end ≡ at + 65_544 * count

-- if these bytes from this place on are whole blocks, the last of them ends here
abbrev pub EndAfterWhole : ℕ → List ℕ → ℕ → Type 0
EndAfterWhole at bytes end = length bytes % 65_536 ≡ 0 → end ≡ at + 65_544 * (length bytes / 65_536)

-- all that was read of a file is what it holds, and it holds these places
abbrev pub WereTrue : {D : Type 0} → Ghosts D → D → ℕ × ℕ → List Spot → Type 0
WereTrue g device seed spots = IsTrue (g.is_clean device) × All (HoldsSpot (g.seen device) seed) spots

-- nothing of a file was changed, also of what a crash may leave, and no wrong answer of the disk was forgotten
pub record IsUntouched {D : Type 0} (g : Ghosts D) (old new : D) : Type 0 where
  pub seen : g.seen new ≡ g.seen old
  pub crash : (c : List ℕ) → g.may_leave new c → g.may_leave old c
  pub clean : IsTrue (g.is_clean new) → IsTrue (g.is_clean old)
