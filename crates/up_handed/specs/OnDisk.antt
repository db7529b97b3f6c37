-- A number on a disk, stored as the length of a file.
use Rattle.std.specs.Prelude.{◌≡◌, ℕ, ◌+◌, ◌-◌, ◌≤◌, max, List, length, IsTrue}
use Rattle.sqlite_disk.specs.declared.Disk.{Ghosts}

-- of `handed` events, of which earlier runs handed over `before`, the number counts all or all but the last, and at
-- least those of the earlier runs
abbrev pub IsAllButOne : ℕ → ℕ → ℕ → Type 0
IsAllButOne before handed n = (max before (handed - 1) ≤ n) × (n ≤ max before handed)

module _ {D : Type 0} (g : Ghosts D) where
  -- a crash at this moment leaves a file whose length satisfies P, if the disk returned no wrong data
  abbrev pub Leaves : D → (ℕ → Type 0) → Type 0
  Leaves device P = IsTrue (g.is_clean device) → (c : List ℕ) → g.may_leave device c → P (length c)

  -- the number is on the disk
  abbrev pub IsOnDisk : D → ℕ → Type 0
  IsOnDisk device n = Leaves device (λ left. left ≡ n)

  -- the number or the next one is on the disk
  abbrev pub IsOnDiskOrNext : D → ℕ → Type 0
  IsOnDiskOrNext device n = Leaves device (λ left. (n ≤ left) × (left ≤ n + 1))

  -- the number on the disk counts all of these events, or all but the last
  abbrev pub CountsAllButOne : D → ℕ → ℕ → Type 0
  CountsAllButOne device before handed = Leaves device (IsAllButOne before handed)
