-- One stream of bytes has one result, except in the cases that are left open.
use Rattle.std.specs.Prelude.{◌≡◌, ◌≢◌, ℕ, ◌+◌, ◌-◌, ◌<◌, ◌≤◌, ◌⊎◌, Bool, false, List, [], ◌++◌, length, take, Some, Ok}
use Rattle.httparse.specs.Grammar.{RequestHead, HasNoRequest, NeverHasRequest, NeverHasChunkLine, NeverHasSection, EndsInTarget}
use Rattle.httparse.specs.Spans.{RequestExceeds, SectionExceeds}
use Rattle.up_message.specs.declared.message.Message.{Message}
use Rattle.up_wire.specs.declared.wire_fault.WireFault.{WireFault}
use Rattle.up_wire.specs.declared.wire_fault.WireFault.TheVariants as Fault
use Rattle.up_wire.specs.declared.framing.Framing.TheVariants.{Chunked}
use Rattle.up_wire.specs.declared.taken.Taken.{Taken}
use Rattle.up_wire.specs.Message.{Ending, open_yet, ended, failed, IsHead, framing_of}
use Rattle.up_wire.specs.Limits.{max_head, max_fields, max_interruptions}
use Rattle.up_wire.specs.Device.{Device, device_of, interrupted}
use Rattle.up_wire.specs.Reading.{IsAnswer, IsReading}
use Rattle.up_wire.specs.Chunks.{HasChunks, IsOpenLine, IsLastLine, AreOpenTrailers}

-- a possible result for a stream with this end: a call takes a prefix of the stream and leaves the rest, and sees the
-- end only if it took everything
pub record MayAnswer (limit : ℕ) (all : List ℕ) (end : Ending) (answer : Taken) (rest : List ℕ) : Type 0 where
  pub input : List ℕ
  pub ending : Ending
  pub front : all ≡ input ++ rest
  pub stands : (ending ≡ open_yet) ⊎ ((rest ≡ []) × (ending ≡ end))
  pub is_answer : IsAnswer limit input ending answer

-- the result depends on the input, and not on memory or the sink
abbrev pub IsOfInput : Taken → Type 0
IsOfInput answer = (bare : Bool) → (answer ≢ Taken.Fault Fault.NoMemory bare) × (answer ≢ Taken.Fault Fault.WriteFailed bare)

-- the results are the same, and a message ends at the same place
pub record IsSameAnswer (a : Taken) (rest : List ℕ) (b : Taken) (other : List ℕ) : Type 0 where
  pub same : a ≡ b
  pub ends : (m : Message) → a ≡ Taken.Message m → rest ≡ other

-- the stream does not begin with a whole head, and has more fields than a head may have
abbrev pub HasManyFields : List ℕ → Type 0
HasManyFields all = HasNoRequest all × RequestExceeds max_fields (take max_head all)

-- no continuation of the bytes is a head, and they end inside the target
abbrev pub StopsInTarget : List ℕ → Type 0
StopsInTarget text = NeverHasRequest text × EndsInTarget text

-- the stream breaks off after chunks, in a line or in trailers that no continuation completes
pub record BreaksOff (limit : ℕ) (all : List ℕ) : Type 0 where
  pub head : RequestHead
  pub behind : List ℕ
  pub is_head : IsHead all head behind
  pub is_framed : framing_of limit head ≡ Ok Chunked
  pub done : List ℕ
  pub chunks : List ℕ
  pub part : List ℕ
  pub has_chunks : HasChunks limit done chunks
  pub stops :
      ((behind ≡ chunks ++ part) × IsOpenLine part × NeverHasChunkLine part)
      ⊎ ((lines : List ℕ) × IsLastLine lines chunks × (behind ≡ lines ++ part) × AreOpenTrailers part
      × (NeverHasSection part ⊎ SectionExceeds max_fields part))

-- a fault before a whole head
abbrev pub refusal : WireFault → Taken
refusal fault = Taken.Fault fault false

-- the cases that are left open: the first result is possible instead of the second
pub data MayStandFor (limit : ℕ) (all : List ℕ) (end : Ending) : Taken → Taken → Type 0 where
  many_fields : HasManyFields all → MayStandFor limit all end (refusal Fault.HeadTooLarge) (refusal Fault.BadHead)
  many_fields_at_failure : HasManyFields all → end ≡ failed → MayStandFor limit all end (refusal Fault.HeadTooLarge) (refusal Fault.ReadFailed)
  in_target : StopsInTarget (take max_head all) → max_head ≤ length all → MayStandFor limit all end (refusal Fault.HeadTooLarge) (refusal Fault.BadHead)
  in_target_at_failure : StopsInTarget all → length all < max_head → end ≡ failed → MayStandFor limit all end (refusal Fault.ReadFailed) (refusal Fault.BadHead)
  in_body : (m : Message) (bare : Bool) → BreaksOff limit all → MayStandFor limit all end (Taken.Cut m) (Taken.Fault Fault.BadFraming bare)

-- the results are the same, except in the cases that are left open
abbrev pub AreOne : ℕ → List ℕ → Ending → Taken → List ℕ → Taken → List ℕ → Type 0
AreOne limit all end a rest b other = IsSameAnswer a rest b other ⊎ (MayStandFor limit all end a b ⊎ MayStandFor limit all end b a)

-- one stream has one result
abbrev pub HasOneAnswer : ℕ → Type 0
HasOneAnswer limit =
    (all : List ℕ) (end : Ending) (a b : Taken) (rest other : List ℕ) → IsOfInput a → IsOfInput b
    → MayAnswer limit all end a rest → MayAnswer limit all end b other → AreOne limit all end a rest b other

-- a call that finds these bytes before the end of its source, and leaves the rest; no read fails
pub record Reads (limit : ℕ) (all rest : List ℕ) (answer : Taken) : Type 0 where
  pub before : ℕ
  pub after : ℕ
  pub sink : Device
  pub sink_after : Device
  pub patient : (after - before) + interrupted sink sink_after < max_interruptions
  pub is_reading : IsReading limit (device_of (Some all) false before) (device_of (Some rest) false after) sink sink_after answer

-- two calls that find the same bytes have the same result
abbrev pub ReadingsAgree : ℕ → Type 0
ReadingsAgree limit =
    (all rest other : List ℕ) (a b : Taken) → IsOfInput a → IsOfInput b
    → Reads limit all rest a → Reads limit all other b → AreOne limit all ended a rest b other
