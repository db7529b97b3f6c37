-- A post-hook that continues where earlier runs ended, as contracts describe it.
use Rattle.std.specs.Prelude.{◌≡◌, ◌+◌, ◌<◌, ℕ, Bool, max, nat_lt, true, false, List, length, drop}
use Rattle.sqlite_disk.specs.declared.Disk.{Ghosts}
use Rattle.up_events.specs.declared.event.Event.{Event}
use Rattle.up_handed.specs.declared.continued.Continued.{Continued}
use Rattle.up_handed.specs.declared.handed.Handed.{Handed}
use Rattle.up_handed.specs.declared.fault.HandedFault.{HandedFault}
use Rattle.up_handed.specs.Faults.{StopsAt}
use Rattle.up_handed.specs.OnDisk.{IsOnDisk}
use Rattle.up_hooks.specs.declared.post_hook.PostHook as post_hook

module _ {H D : Type 0} {g : Ghosts D} where
  -- the number of events that earlier runs handed over and that a shorter log leaves out
  abbrev pub left_out_of : Continued H D g → ℕ
  left_out_of continued = continued.left_out

  -- the number of events that earlier runs handed over, of those that are still in the log
  abbrev pub before_of : Continued H D g → ℕ
  before_of continued = continued.before

  -- the events, of those still in the log, that all runs together handed over, in order
  abbrev pub handed_events : Continued H D g → List Event
  handed_events continued = continued.told.items

  -- the inner post-hook
  abbrev pub inner_hook : Continued H D g → H
  inner_hook continued = continued.hook

  -- the count
  abbrev pub handed_of : Continued H D g → Handed D g
  handed_of continued = continued.handed

  -- whether the next event is one that earlier runs handed over
  abbrev pub skips_next : Continued H D g → Bool
  skips_next continued = nat_lt continued.passed continued.before

  -- the last event is not counted, and a crash leaves the number of those before it
  abbrev pub IsNotCounted : Continued H D g → Type 0
  IsNotCounted continued = (continued.is_owed ≡ true) × IsOnDisk g continued.handed.device continued.handed.count

  -- the inner post-hook can be called, and was handed all events except those that earlier runs handed over. An event
  -- that it has not settled is not counted, so that it is handed over again after a crash
  pub record GoesOn (h : post_hook.Ghosts H) (continued : Continued H D g) : Type 0 where
    pub sound : h.is_sound continued.hook
    pub further : h.handed continued.hook ≡ drop continued.before continued.told.items
    pub unsettled : h.is_settled continued.hook ≡ false → continued.before < length continued.told.items → IsNotCounted continued

module _ {H D : Type 0} (g : Ghosts D) where
  -- the number on the disk counts all events that were handed over, or those of earlier runs if these are more, with
  -- those that a shorter log leaves out
  abbrev pub IsAllCounted : Continued H D g → Type 0
  IsAllCounted continued =
      IsOnDisk g continued.handed.device (continued.left_out + max continued.before (length continued.told.items))

  -- the count failed, as adding one can
  abbrev pub IsStopped : Continued H D g → Continued H D g → Type 0
  IsStopped old new = (fault : HandedFault) × StopsAt g old.handed.count old.handed.device new.handed.device fault
