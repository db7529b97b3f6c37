-- The models of the devices in memory, and what they return.
use Rattle.std.specs.Prelude.{ℕ, zero, suc, Bool, true, false, List, [], ◌∷◌, Some, min}
use Rattle.up_wire.specs.Device.{Device, device_of}
use Rattle.up_wire.specs.declared.device.NextByte.{NextByte}
use Rattle.up_wire.specs.declared.device.NextByte.TheVariants as Next
use Rattle.up_wire.specs.declared.device.WriteSome.{WriteSome}
use Rattle.up_wire.specs.declared.device.WriteSome.TheVariants as Write

-- a tape: the bytes that are left, and whether it fails after them; the number of interruptions before the next byte,
-- and the number so far; whether it failed
pub record Recorded : Type 0 where
  pub bytes : List ℕ
  pub fails : Bool
  pub waits : ℕ
  pub interruptions : ℕ
  pub has_failed : Bool

-- a tape as a source
abbrev pub tape_device : Recorded → Device
tape_device t = device_of (Some t.bytes) t.has_failed t.interruptions

-- what a tape returns if it did not fail before: interruptions, then the bytes, then the end or a failure
abbrev pub next_of : ℕ → List ℕ → Bool → NextByte
next_of (suc waits) bytes fails = Next.Interrupted
next_of zero (byte ∷ bytes) fails = Next.Byte byte
next_of zero [] true = Next.Failed
next_of zero [] false = Next.End

-- what a tape returns when it is asked for a byte
abbrev pub tape_answer : Bool → ℕ → List ℕ → Bool → NextByte
tape_answer true waits bytes fails = Next.Failed
tape_answer false waits bytes fails = next_of waits bytes fails

-- a slip: the bytes that were written, and the room that is left; the number of interruptions before the next byte, and
-- the number so far; whether it failed
pub record Written : Type 0 where
  pub bytes : List ℕ
  pub room : ℕ
  pub waits : ℕ
  pub interruptions : ℕ
  pub has_failed : Bool

-- a slip as a sink
abbrev pub slip_device : Written → Device
slip_device s = device_of (Some s.bytes) s.has_failed s.interruptions

-- what a sink returns for `count` bytes if nothing interrupts it: it takes as many as it has room for, and without room
-- it fails, except for no bytes
abbrev pub room_answer : ℕ → ℕ → WriteSome
room_answer zero zero = Write.Took 0
room_answer zero (suc count) = Write.Failed
room_answer (suc room) count = Write.Took (min (suc room) count)

-- what a slip that has not failed returns for `count` bytes
abbrev pub wait_answer : ℕ → ℕ → ℕ → WriteSome
wait_answer (suc waits) room count = Write.Interrupted
wait_answer zero room count = room_answer room count

-- what a slip returns for `count` bytes; for no bytes, this is also what `flush` returns
abbrev pub slip_answer : Bool → ℕ → ℕ → ℕ → WriteSome
slip_answer true waits room count = Write.Failed
slip_answer false waits room count = wait_answer waits room count
