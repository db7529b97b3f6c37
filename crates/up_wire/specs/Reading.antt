-- What a call of `read_message` takes, writes and returns.
use Rattle.std.specs.Prelude.{◌≡◌, ℕ, Bool, ◌+◌, ◌<◌, ◌⊎◌, List, [], ◌++◌, length, Result, Ok, Err, ⊤}
use Rattle.std.specs.Io.KnownBytes.{Consumes, Appends, IsAtEnd}
use Rattle.httparse.specs.Grammar.{RequestHead}
use Rattle.up_wire.specs.declared.wire_fault.WireFault.{WireFault}
use Rattle.up_wire.specs.declared.wire_fault.WireFault.TheVariants as Fault
use Rattle.up_wire.specs.declared.taken.Taken.{Taken}
use Rattle.up_wire.specs.declared.framing.Framing.{Framing}
use Rattle.up_wire.specs.Device.{Device, interrupted, Broke}
use Rattle.up_wire.specs.Limits.{max_interruptions}
use Rattle.up_wire.specs.Framing.{interim}
use Rattle.up_wire.specs.Message.{Ending, fields_of, IsHead, framing_of, open_yet, ended, failed, IsMessage, IsCut, IsEndOfInput, IsFault}

-- a prefix of the text
abbrev pub IsPrefix : List ℕ → List ℕ → Type 0
IsPrefix front text = (rest : List ℕ) × (text ≡ front ++ rest)

-- what must be written after a head: nothing if its fields are at fault
abbrev pub interim_after : Result Framing WireFault → RequestHead → List ℕ
interim_after (Ok framing) head = interim framing head.minor (fields_of head)
interim_after (Err fault) head = []

-- the line is what must be written after the head of the input
abbrev pub IsDue : ℕ → List ℕ → List ℕ → Type 0
IsDue limit input line =
    (head : RequestHead) × (behind : List ℕ) × IsHead input head behind × (line ≡ interim_after (framing_of limit head) head)

-- what was written if the call returns a fault
abbrev pub IsInterimAtFault : ℕ → List ℕ → WireFault → List ℕ → Type 0
IsInterimAtFault limit input Fault.BadHead line = line ≡ []
IsInterimAtFault limit input Fault.HeadTooLarge line = line ≡ []
IsInterimAtFault limit input Fault.BadFraming line = IsDue limit input line
IsInterimAtFault limit input Fault.UnknownCoding line = IsDue limit input line
IsInterimAtFault limit input Fault.BodyTooLarge line = IsDue limit input line
IsInterimAtFault limit input Fault.ReadFailed line = line ≡ []
IsInterimAtFault limit input Fault.NoMemory line = (line ≡ []) ⊎ IsDue limit input line
IsInterimAtFault limit input Fault.WriteFailed line = (whole : List ℕ) × IsDue limit input whole × (0 < length whole) × IsPrefix line whole

-- what was written
abbrev pub IsInterim : ℕ → List ℕ → Taken → List ℕ → Type 0
IsInterim limit input (Taken.Message m) line = IsDue limit input line
IsInterim limit input (Taken.Cut m) line = IsDue limit input line
IsInterim limit input (Taken.Fault fault bare) line = IsInterimAtFault limit input fault line
IsInterim limit input Taken.End line = line ≡ []

-- what `read_message` may return after taking these bytes
abbrev pub IsAnswer : ℕ → List ℕ → Ending → Taken → Type 0
IsAnswer limit input ending (Taken.Message m) = IsMessage limit input m []
IsAnswer limit input ending (Taken.Cut m) = IsCut limit input m × ((ending ≡ ended) ⊎ (ending ≡ failed))
IsAnswer limit input ending (Taken.Fault fault bare) = IsFault limit input ending fault bare
IsAnswer limit input ending Taken.End = IsEndOfInput input × (ending ≡ ended)

-- how the input continues, as the source shows it before and after a call with `count` interruptions
abbrev pub Shows : Ending → Device → Device → ℕ → Type 0
Shows open_yet source source_after count = ⊤
Shows ended source source_after count = IsAtEnd source_after.bytes
Shows failed source source_after count = Broke source source_after count

-- `100 Continue` was not written completely
abbrev pub IsWriteFailure : Taken → Type 0
IsWriteFailure answer = (bare : Bool) × (answer ≡ Taken.Fault Fault.WriteFailed bare)

-- if the call returns this fault, the sink failed or was given up
abbrev pub IsUnwritten : Taken → Device → Device → ℕ → Type 0
IsUnwritten answer sink sink_after count = IsWriteFailure answer → Broke sink sink_after count

-- a call gives up exactly at the last allowed interruption, of reads and writes together
abbrev pub IsPatient : Ending → Taken → ℕ → Type 0
IsPatient ending answer count =
    (count < max_interruptions) ⊎ ((count ≡ max_interruptions) × ((ending ≡ failed) ⊎ IsWriteFailure answer))

-- the number of interruptions of both devices during a call
abbrev pub interruptions : Device → Device → Device → Device → ℕ
interruptions source source_after sink sink_after = interrupted source source_after + interrupted sink sink_after

-- a call of `read_message`, described by the source and the sink before and after it
pub record IsReading (limit : ℕ) (source source_after sink sink_after : Device) (answer : Taken) : Type 0 where
  pub input : List ℕ
  pub ending : Ending
  pub line : List ℕ
  pub took : Consumes source.bytes source_after.bytes input
  pub wrote : Appends sink.bytes sink_after.bytes line
  pub shows : Shows ending source source_after (interruptions source source_after sink sink_after)
  pub is_patient : IsPatient ending answer (interruptions source source_after sink sink_after)
  pub is_answer : IsAnswer limit input ending answer
  pub is_interim : IsInterim limit input answer line
  pub is_unwritten : IsUnwritten answer sink sink_after (interruptions source source_after sink sink_after)
