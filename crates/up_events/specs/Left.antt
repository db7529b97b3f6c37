-- The rest of a log, of which the first events can be forgotten.
use Rattle.std.specs.Prelude.{◌≡◌, ℕ, ◌+◌, ◌-◌, ◌*◌, ◌^◌, ◌≤◌, ◌<◌, min, Some, List, length, drop, slice_get, Vec}
use Rattle.std.specs.declared.alloc.Global.{Global}
use Rattle.up_events.specs.Blocks.{IsBlock}
use Rattle.up_events.specs.declared.event.Event.{Event}
use Rattle.up_events.specs.declared.tail.TheConstants.{BLOCK}

-- the number of forgotten events, the other events, and the number of events that there is still room for
pub record Left : Type 0 where
  pub first : ℕ
  pub events : List Event
  pub room : ℕ

-- the number of events of the log, with the forgotten ones
abbrev pub log_length : Left → ℕ
log_length l = l.first + length l.events

-- the rest of the log `all`, of which `first` events are forgotten, in blocks that begin at its place `base`
abbrev pub left : List Event → ℕ → ℕ → List (Vec Event Global) → Left
left all first base blocks =
    record { first = first; events = drop first all; room = min (base + length blocks * BLOCK - length all) (2 ^ 64 - 1 - length all) }

-- the blocks have all events of the log from the place `base` on, and `first - base` of these are forgotten
pub record IsLeft (all : List Event) (len first base : ℕ) (blocks : List (Vec Event Global)) : Type 0 where
  pub counted : len ≡ length all
  pub countable : len < 2 ^ 64
  pub forgotten : first ≤ len
  pub given_back : base ≤ first
  pub room : len ≤ base + length blocks * BLOCK
  pub each : (k : ℕ) (block : Vec Event Global) → slice_get blocks k ≡ Some block → IsBlock BLOCK all (base + k * BLOCK) block
