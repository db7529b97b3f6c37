-- A body that was read into memory, or into a spool.
use Rattle.std.specs.Prelude.{◌≡◌, ◌⊎◌, ◌<◌, ⊤, ℕ, List, length, Result, Ok, Err}
use Rattle.up_wire.specs.declared.body.BodyEnd.{BodyEnd}
use Rattle.up_wire.specs.declared.device.Source.{Ghosts}
use Rattle.up_wire.specs.declared.framing.Framing.{Framing}
use Rattle.up_wire.specs.declared.spooled.BodyKept.{BodyKept}
use Rattle.up_wire.specs.declared.wire_fault.WireFault.TheVariants as Fault
use Rattle.up_wire.specs.Message.{Ending, open_yet, ended, failed, IsBody, IsCutBody, IsBodyFault}
use Rattle.up_wire.specs.Steps.{HasRead, IsBytesRead}

-- the bytes that arrived are in the block
abbrev pub IsBlockRead : {X : Type 0} → ℕ → List ℕ → Ending → List ℕ → Result X BodyEnd → Type 0
IsBlockRead count run ending block result = (block ≡ run) × IsBytesRead count block ending result

-- the bytes that arrived are in the spool; nothing is said if memory ran out or the spool failed
abbrev pub IsPutAway : {X : Type 0} → ℕ → List ℕ → Ending → List ℕ → Result X BodyEnd → Type 0
IsPutAway size run ending body (Ok done) = (body ≡ run) × (length run ≡ size) × (ending ≡ open_yet)
IsPutAway size run ending body (Err BodyEnd.Ended) = (body ≡ run) × (length run < size) × (ending ≡ ended)
IsPutAway size run ending body (Err BodyEnd.Failed) = (body ≡ run) × (length run < size) × (ending ≡ failed)
IsPutAway size run ending body (Err BodyEnd.Bad) = ⊥
IsPutAway size run ending body (Err BodyEnd.NoMemory) = ⊤

-- the result of reading a body into memory, or into a spool
abbrev pub IsBodyKept : ℕ → Framing → List ℕ → Ending → BodyKept → Type 0
IsBodyKept limit framing input ending (BodyKept.Whole body) = IsBody limit framing body input × (ending ≡ open_yet)
IsBodyKept limit framing input ending (BodyKept.Cut body) = IsCutBody limit framing body input × ((ending ≡ ended) ⊎ (ending ≡ failed))
IsBodyKept limit framing input ending (BodyKept.Fault fault) = (fault ≡ Fault.NoMemory) ⊎ IsBodyFault limit framing input fault

-- a call with this source, before and after it, keeps a body with this framing
abbrev pub KeepsBody : {R : Type 0} → Ghosts R → R → R → ℕ → ℕ → ℕ → Framing → BodyKept → Type 0
KeepsBody r source source' old new limit framing kept =
    HasRead (r.device source) (r.device source') old new (λ input ending. IsBodyKept limit framing input ending kept)
