-- When a call on a file of bodies fails.
use Rattle.std.specs.Prelude.{◌≡◌, ℕ, ◌+◌, ◌≤◌, ◌^◌, List, false, length, IsTrue}
use Rattle.sqlite_disk.specs.Disk.{Holds, MoreFaults}
use Rattle.sqlite_disk.specs.declared.Disk.{Ghosts}
use Rattle.up_bodies.specs.declared.fault.BlockFault.{BlockFault}
use Rattle.up_bodies.specs.declared.fault.BlockFault.TheVariants as block_fault
use Rattle.up_bodies.specs.declared.fault.OpenFault.{OpenFault}
use Rattle.up_bodies.specs.declared.fault.OpenFault.TheVariants as open_fault
use Rattle.up_bodies.specs.declared.head.Head.{Head}
use Rattle.up_bodies.specs.Heads.{IsCause}

module _ {D : Type 0} (g : Ghosts D) where
  -- a read of so many bytes at this place failed, or the file has no such bytes
  abbrev pub IsUnread : ℕ → ℕ → D → D → Type 0
  IsUnread at n old new = (IsTrue (g.is_clean old) → at + n ≤ length (g.seen old)) → MoreFaults (g.faults old) (g.faults new)

  -- why a file that would end here is not written
  abbrev pub IsUnwrittenFor : ℕ → D → D → BlockFault → Type 0
  IsUnwrittenFor end old new block_fault.TooLarge = 2 ^ 64 ≤ end
  IsUnwrittenFor end old new block_fault.Broken = g.is_usable old ≡ false
  IsUnwrittenFor end old new (block_fault.Disk error) = MoreFaults (g.faults old) (g.faults new)
  IsUnwrittenFor end old new block_fault.NoMemory = Unit {0}
  IsUnwrittenFor end old new block_fault.Damaged = ⊥

  -- why a file is not written through to the disk
  abbrev pub IsUnsettledFor : D → D → BlockFault → Type 0
  IsUnsettledFor old new block_fault.Broken = g.is_usable old ≡ false
  IsUnsettledFor old new (block_fault.Disk error) = MoreFaults (g.faults old) (g.faults new)
  IsUnsettledFor old new other = ⊥

  -- why so many bytes at this place are not read; that they are damaged is another clause's
  abbrev pub IsUnreadFor : ℕ → ℕ → D → D → BlockFault → Type 0
  IsUnreadFor at n old new block_fault.Damaged = Unit {0}
  IsUnreadFor at n old new block_fault.TooLarge = 2 ^ 64 ≤ at
  IsUnreadFor at n old new block_fault.Broken = g.is_usable old ≡ false
  IsUnreadFor at n old new (block_fault.Disk error) = IsUnread at n old new
  IsUnreadFor at n old new block_fault.NoMemory = ⊥

  -- the disk is to blame where a head is not written
  abbrev pub IsUnmadeFor : D → D → OpenFault → Type 0
  IsUnmadeFor old new open_fault.Broken = g.is_usable old ≡ false
  IsUnmadeFor old new (open_fault.Disk error) = MoreFaults (g.faults old) (g.faults new)
  IsUnmadeFor old new open_fault.NoMemory = Unit {0}
  IsUnmadeFor old new other = ⊥

  -- why a file is not opened: the disk is to blame, or what it returned
  abbrev pub IsUnopenedFor : Head → D → D → OpenFault → Type 0
  IsUnopenedFor head old new open_fault.Broken = g.is_usable old ≡ false
  IsUnopenedFor head old new (open_fault.Disk error) = IsUnread 0 56 old new
  IsUnopenedFor head old new fault =
      IsTrue (g.is_clean new) → (text : List ℕ) → length text ≡ 56 → Holds (g.seen old) 0 text → IsCause head text fault
