-- When a count has which fault.
use Rattle.std.specs.Prelude.{◌≡◌, ℕ, ◌-◌, ◌^◌, false}
use Rattle.sqlite_disk.specs.Disk.{MoreFaults}
use Rattle.sqlite_disk.specs.declared.Disk.{Ghosts}
use Rattle.up_handed.specs.declared.fault.HandedFault.{HandedFault}
use Rattle.up_handed.specs.declared.fault.HandedFault.TheVariants as fault

module _ {D : Type 0} (g : Ghosts D) where
  -- a call of the disk failed now, or a sync failed before; the fault says which
  abbrev pub IsOfDisk : D → D → HandedFault → Type 0
  IsOfDisk old new (fault.Disk error) = MoreFaults (g.faults old) (g.faults new)
  IsOfDisk old new fault.Broken = g.is_usable old ≡ false
  IsOfDisk old new other = ⊥

  -- the same, or the number is the maximum
  abbrev pub StopsAt : ℕ → D → D → HandedFault → Type 0
  StopsAt n old new (fault.Disk error) = MoreFaults (g.faults old) (g.faults new)
  StopsAt n old new fault.Broken = g.is_usable old ≡ false
  StopsAt n old new fault.Full = n ≡ 2 ^ 64 - 1
  StopsAt n old new other = ⊥
