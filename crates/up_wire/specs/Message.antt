-- A message, an incomplete message, the faults and the end of an input (RFC 9112; httparse's grammar of heads).
use Rattle.std.specs.Prelude.{◌≡◌, ℕ, ◌<◌, ◌≤◌, ◌⊎◌, Bool, true, false, ◌&&◌, List, [], ◌∷◌, ◌++◌, length, map, Result, Ok, Err, ◌==◌, codes, bytes_eq, IsTrue}
use Rattle.httparse.specs.Ascii.{carriage_return, line_feed}
use Rattle.httparse.specs.Grammar.{RequestHead, print_request, ReadsRequest, HasNoRequest, NeverHasRequest, MayBecomeRequest}
use Rattle.httparse.specs.Spans.{name_and_value, RequestExceeds}
use Rattle.up_message.specs.declared.message.Message.{Message}
use Rattle.up_wire.specs.declared.wire_fault.WireFault.{WireFault}
use Rattle.up_wire.specs.declared.wire_fault.WireFault.TheVariants as Fault
use Rattle.up_wire.specs.declared.framing.Framing.{Framing}
use Rattle.up_wire.specs.declared.framing.Framing.TheVariants.{NoBody, Sized, Chunked}
use Rattle.up_message.specs.Fields.{Field}
use Rattle.up_wire.specs.Framing.{framing, closes}
use Rattle.up_wire.specs.Limits.{max_head, max_fields}
use Rattle.up_wire.specs.Chunks.{IsChunked, IsCutChunked, IsChunkedFault}

-- how an input continues after the bytes that were taken: it is still open, it ends, or a read fails
pub data Ending : Type 0 where
  open_yet ended failed : Ending

-- the names and values of a head, without the blanks around the values
abbrev pub fields_of : RequestHead → List Field
fields_of head = map name_and_value head.fields

-- the input begins with this head, which is within the limits
pub record IsHead (input : List ℕ) (head : RequestHead) (rest : List ℕ) : Type 0 where
  pub reads : ReadsRequest input head rest
  pub short : length (print_request head) ≤ max_head
  pub few : length head.fields ≤ max_fields

-- the method on the wire is HEAD
abbrev pub is_bare : RequestHead → Bool
is_bare head = bytes_eq head.method (codes "HEAD")

-- how the head frames the body, or the fault
abbrev pub framing_of : ℕ → RequestHead → Result Framing WireFault
framing_of limit head = framing limit head.minor (fields_of head)

-- the message has the parts of the head
pub record HasParts (m : Message) (head : RequestHead) : Type 0 where
  pub method : m.method ≡ head.method
  pub target : m.target ≡ head.target
  pub fields : m.fields ≡ fields_of head
  pub bare : m.bare ≡ is_bare head
  pub close : m.close ≡ closes head.minor (fields_of head)

-- the text is a body with these bytes and this framing
abbrev pub IsBody : ℕ → Framing → List ℕ → List ℕ → Type 0
IsBody limit NoBody bytes text = (bytes ≡ []) × (text ≡ [])
IsBody limit (Sized size) bytes text = (length bytes ≡ size) × (text ≡ bytes)
IsBody limit Chunked bytes text = IsChunked bytes text × (length bytes ≤ limit)

-- the text is less than a body, and `bytes` are the bytes of the body that arrived
abbrev pub IsCutBody : ℕ → Framing → List ℕ → List ℕ → Type 0
IsCutBody limit NoBody bytes text = ⊥
IsCutBody limit (Sized size) bytes text = (length bytes < size) × (text ≡ bytes)
IsCutBody limit Chunked bytes text = IsCutChunked limit bytes text

-- no body begins with the text, for this fault
abbrev pub IsBodyFault : ℕ → Framing → List ℕ → WireFault → Type 0
IsBodyFault limit NoBody text fault = ⊥
IsBodyFault limit (Sized size) text fault = ⊥
IsBodyFault limit Chunked text fault = IsChunkedFault limit text fault

-- the head, the body and the rest
pub record IsMessage (limit : ℕ) (input : List ℕ) (m : Message) (rest : List ℕ) : Type 0 where
  pub head : RequestHead
  pub behind : List ℕ
  pub is_head : IsHead input head behind
  pub framing : Framing
  pub is_framed : framing_of limit head ≡ Ok framing
  pub text : List ℕ
  pub is_body : IsBody limit framing m.body text
  pub behind_is : behind ≡ text ++ rest
  pub parts : HasParts m head

-- a whole head, and less than its body
pub record IsCut (limit : ℕ) (input : List ℕ) (m : Message) : Type 0 where
  pub head : RequestHead
  pub behind : List ℕ
  pub is_head : IsHead input head behind
  pub framing : Framing
  pub is_framed : framing_of limit head ≡ Ok framing
  pub is_cut : IsCutBody limit framing m.body behind
  pub parts : HasParts m head

-- a whole head whose fields are at fault, or that is followed by bytes that begin no body
pub record IsFramingFault (limit : ℕ) (input : List ℕ) (fault : WireFault) (bare : Bool) : Type 0 where
  pub head : RequestHead
  pub behind : List ℕ
  pub is_head : IsHead input head behind
  pub is_fault : ((framing_of limit head ≡ Err fault) × (behind ≡ [])) ⊎ ((framing : Framing) × (framing_of limit head ≡ Ok framing) × IsBodyFault limit framing behind fault)
  pub bare_is : bare ≡ is_bare head

-- only empty lines, each ended by CRLF
abbrev pub is_crlfs : List ℕ → Bool
is_crlfs [] = true
is_crlfs (a ∷ []) = false
is_crlfs (a ∷ b ∷ rest) = ((a == carriage_return) && (b == line_feed)) && is_crlfs rest

abbrev pub IsBlank : List ℕ → Type 0
IsBlank input = IsTrue (is_crlfs input)

-- there is no message
abbrev pub IsEndOfInput : List ℕ → Type 0
IsEndOfInput input = (length input < max_head) × IsBlank input

-- no continuation of the input is a head, or the input ends inside a head
abbrev pub IsBadHead : List ℕ → Ending → Type 0
IsBadHead input ending =
    ((length input ≤ max_head) × NeverHasRequest input)
    ⊎ ((ending ≡ ended) × HasNoRequest input × (length input < max_head) × ¬ (IsBlank input))

-- too many fields, or the maximum number of bytes and no head yet
abbrev pub IsTooLarge : List ℕ → Type 0
IsTooLarge input =
    ((length input ≤ max_head) × RequestExceeds max_fields input)
    ⊎ ((length input ≡ max_head) × HasNoRequest input × MayBecomeRequest input)

-- a read fails before the head is whole
abbrev pub IsReadFailure : List ℕ → Ending → Type 0
IsReadFailure input ending = (ending ≡ failed) × HasNoRequest input × (length input < max_head) × MayBecomeRequest input

-- whether the method is HEAD, which is known only if the head is whole
abbrev pub IsBare : List ℕ → Bool → Type 0
IsBare input bare =
    (HasNoRequest input × (bare ≡ false))
    ⊎ ((head : RequestHead) × (behind : List ℕ) × IsHead input head behind × (bare ≡ is_bare head))

-- the faults of the input, of the devices and of memory; `100 Continue` is written before any byte of the body is taken
abbrev pub IsFault : ℕ → List ℕ → Ending → WireFault → Bool → Type 0
IsFault limit input ending Fault.BadHead bare = IsBadHead input ending × (bare ≡ false)
IsFault limit input ending Fault.HeadTooLarge bare = IsTooLarge input × (bare ≡ false)
IsFault limit input ending Fault.BadFraming bare = IsFramingFault limit input Fault.BadFraming bare
IsFault limit input ending Fault.UnknownCoding bare = IsFramingFault limit input Fault.UnknownCoding bare
IsFault limit input ending Fault.BodyTooLarge bare = IsFramingFault limit input Fault.BodyTooLarge bare
IsFault limit input ending Fault.ReadFailed bare = IsReadFailure input ending × (bare ≡ false)
IsFault limit input ending Fault.NoMemory bare = IsBare input bare
IsFault limit input ending Fault.WriteFailed bare = (head : RequestHead) × IsHead input head [] × (bare ≡ is_bare head)
