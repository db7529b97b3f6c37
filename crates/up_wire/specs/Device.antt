-- What a call of a device does, as the caller sees it.
use Rattle.std.specs.Prelude.{◌≡◌, ◌≢◌, ℕ, ◌+◌, ◌-◌, ◌^◌, ◌<◌, ◌≤◌, ◌⊎◌, ◌↔◌, Bool, true, false, List, [], ◌∷◌, ◌++◌, All, length, take, Option, Some, None, Result, Ok, Err, ⊤}
use Rattle.std.specs.Io.KnownBytes.{IsAtEnd}
use Rattle.std.specs.IoError.{error_kind}
use Rattle.std.specs.declared.io.Error.{Error}
use Rattle.std.specs.declared.io.ErrorKind.TheVariants.{Interrupted}
use Rattle.httparse.specs.Ascii.{line_feed}
use Rattle.up_wire.specs.Limits.{max_interruptions}
use Rattle.up_wire.specs.declared.device.NextByte.{NextByte}
use Rattle.up_wire.specs.declared.device.NextByte.TheVariants as Next
use Rattle.up_wire.specs.declared.device.ReadSome.{ReadSome}
use Rattle.up_wire.specs.declared.device.WriteSome.{WriteSome}
use Rattle.up_wire.specs.declared.device.WriteSome.TheVariants as Write

-- the model of a source or a sink: the bytes left or written, if they are known, whether it failed, and how often it
-- was interrupted
pub record Device : Type 0 where
  pub bytes : Option (List ℕ)
  pub has_failed : Bool
  pub interruptions : ℕ

abbrev pub device_of : Option (List ℕ) → Bool → ℕ → Device
device_of bytes has_failed interruptions = record { bytes = bytes; has_failed = has_failed; interruptions = interruptions }

-- the number of interruptions of a device during a call
abbrev pub interrupted : Device → Device → ℕ
interrupted before after = after.interruptions - before.interruptions

-- a device failed, or was interrupted at least as often as a call may be
abbrev pub GaveUp : Device → ℕ → Type 0
GaveUp after count = (after.has_failed ≡ true) ⊎ (max_interruptions ≤ count)

-- a call counts the interruptions of its device: the count rises from `old` to `new`
pub record Counts (before after : Device) (old new : ℕ) : Type 0 where
  pub rose : old ≤ new
  pub counted : new + before.interruptions ≡ old + after.interruptions

-- a call that writes counts the interruptions of its sink, and gives up at the last allowed one, or if the sink failed
pub record Tries (before after : Device) (old new : ℕ) (done : Bool) : Type 0 where
  pub counts : Counts before after old new
  pub bounded : new ≤ max_interruptions
  pub patient : done ≡ true → new < max_interruptions
  pub failed : done ≡ false → GaveUp after new

-- a device failed in a call, or the last allowed interruption was reached in a call that interrupted this device
abbrev pub Broke : Device → Device → ℕ → Type 0
Broke before after count = (after.has_failed ≡ true) ⊎ ((count ≡ max_interruptions) × (before.interruptions < after.interruptions))

-- the bytes that a read returned
abbrev pub given : NextByte → List ℕ
given (Next.Byte byte) = byte ∷ []
given Next.End = []
given Next.Interrupted = []
given Next.Failed = []

-- whether the read failed
abbrev pub is_failed_read : NextByte → Bool
is_failed_read (Next.Byte byte) = false
is_failed_read Next.End = false
is_failed_read Next.Interrupted = false
is_failed_read Next.Failed = true

-- the number of interruptions that a read counts as
abbrev pub interrupted_reads : NextByte → ℕ
interrupted_reads (Next.Byte byte) = 0
interrupted_reads Next.End = 0
interrupted_reads Next.Interrupted = 1
interrupted_reads Next.Failed = 0

-- the source has no bytes left if it returned `End`
abbrev pub EndsAt : NextByte → Option (List ℕ) → Type 0
EndsAt (Next.Byte byte) left = ⊤
EndsAt Next.End left = IsAtEnd left
EndsAt Next.Interrupted left = ⊤
EndsAt Next.Failed left = ⊤

-- the bytes that a read moved: as many as it says, at least one and at most `most`, or none
abbrev pub IsRun : ReadSome → ℕ → List ℕ → Type 0
IsRun (ReadSome.Moved count) most run = (length run ≡ count) × (0 < count) × (count ≤ most)
IsRun ReadSome.End most run = run ≡ []
IsRun ReadSome.Interrupted most run = run ≡ []
IsRun ReadSome.Failed most run = run ≡ []

-- the room of a buffer before and after a read: it is the same if nothing was moved, and never shrinks
abbrev pub KeepsRoom : ReadSome → ℕ → ℕ → Type 0
KeepsRoom (ReadSome.Moved count) before after = before ≤ after
KeepsRoom ReadSome.End before after = after ≡ before
KeepsRoom ReadSome.Interrupted before after = after ≡ before
KeepsRoom ReadSome.Failed before after = after ≡ before

-- bytes without a line feed
abbrev pub HasNoFeed : List ℕ → Type 0
HasNoFeed bytes = All (λ b. b ≢ line_feed) bytes

-- bytes without a line feed, and then one line feed
abbrev pub IsEndedLine : List ℕ → Type 0
IsEndedLine bytes = (front : List ℕ) × (bytes ≡ front ++ line_feed ∷ []) × HasNoFeed front

-- no byte is a line feed, except possibly the last
abbrev pub IsInLine : List ℕ → Type 0
IsInLine bytes = HasNoFeed bytes ⊎ IsEndedLine bytes

-- whether the read failed
abbrev pub is_failed_run : ReadSome → Bool
is_failed_run (ReadSome.Moved count) = false
is_failed_run ReadSome.End = false
is_failed_run ReadSome.Interrupted = false
is_failed_run ReadSome.Failed = true

-- the number of interruptions that a read counts as
abbrev pub interrupted_runs : ReadSome → ℕ
interrupted_runs (ReadSome.Moved count) = 0
interrupted_runs ReadSome.End = 0
interrupted_runs ReadSome.Interrupted = 1
interrupted_runs ReadSome.Failed = 0

-- the source has no bytes left if it returned `End`
abbrev pub RunEndsAt : ReadSome → Option (List ℕ) → Type 0
RunEndsAt (ReadSome.Moved count) left = ⊤
RunEndsAt ReadSome.End left = IsAtEnd left
RunEndsAt ReadSome.Interrupted left = ⊤
RunEndsAt ReadSome.Failed left = ⊤

-- the byte, if there is one
abbrev pub maybe_byte : Option ℕ → List ℕ
maybe_byte None = []
maybe_byte (Some byte) = byte ∷ []

-- there is a byte, or the reader is at its end
abbrev pub IsNoneAtEnd : Option ℕ → Option (List ℕ) → Type 0
IsNoneAtEnd None left = IsAtEnd left
IsNoneAtEnd (Some byte) left = ⊤

-- the bytes of a slice that a write took
abbrev pub taken : WriteSome → List ℕ → List ℕ
taken (Write.Took count) bytes = take count bytes
taken Write.Interrupted bytes = []
taken Write.Failed bytes = []

-- whether the write failed
abbrev pub is_failed_write : WriteSome → Bool
is_failed_write (Write.Took count) = false
is_failed_write Write.Interrupted = false
is_failed_write Write.Failed = true

-- the number of interruptions that a write counts as
abbrev pub interrupted_writes : WriteSome → ℕ
interrupted_writes (Write.Took count) = 0
interrupted_writes Write.Interrupted = 1
interrupted_writes Write.Failed = 0

-- nothing was taken
abbrev pub IsNothing : WriteSome → Type 0
IsNothing (Write.Took count) = ⊥
IsNothing Write.Interrupted = ⊤
IsNothing Write.Failed = ⊤

-- a sink takes no more than the slice has, and at least one byte of a slice that is not empty
abbrev pub TakesSome : WriteSome → List ℕ → Type 0
TakesSome (Write.Took count) bytes = (count ≤ length bytes) × (0 < length bytes → 0 < count)
TakesSome Write.Interrupted bytes = ⊤
TakesSome Write.Failed bytes = ⊤

-- an error of std is an interruption, and the number of interruptions before it can still be counted up
abbrev pub IsInterruption : Error → ℕ → Type 0
IsInterruption error before = (error_kind error ≡ Interrupted) × (before < 2 ^ 64 - 1)

-- what a sink returns for this result of a writer of std, which was given `most` bytes, after `before` interruptions: a
-- write that took no byte of a slice that is not empty failed
abbrev pub IsWriteAnswer : Result ℕ Error → ℕ → ℕ → WriteSome → Type 0
IsWriteAnswer (Ok count) most before answer =
    ((count ≡ 0) × (0 < most) × (answer ≡ Write.Failed)) ⊎ (((0 < count) ⊎ (most ≡ 0)) × (answer ≡ Write.Took count))
IsWriteAnswer (Err error) most before answer =
    IsNothing answer × ((answer ≡ Write.Interrupted) ↔ IsInterruption error before)
