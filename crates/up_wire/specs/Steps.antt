-- What the steps of reading a message return.
use Rattle.std.specs.Prelude.{◌≡◌, ◌≢◌, ℕ, ◌*◌, ◌<◌, ◌≤◌, ◌⊎◌, ⊤, max, Vec, vec_len, vec_capacity, Bool, true, false, ◌&&◌, ◌==◌, List, [], ◌∷◌, ◌++◌, length, Option, Result, Ok, Err}
use Rattle.std.specs.Io.KnownBytes.{Consumes, Appends, IsAtEnd}
use Rattle.std.specs.declared.alloc.Global.{Global}
use Rattle.httparse.specs.Ascii.{carriage_return, line_feed, crlf_bytes}
use Rattle.httparse.specs.Grammar.{ReadsSection, HasNoSection, NeverHasSection, MayBecomeSection, ChunkLine, print_chunk_line, chunk_size, RequestHead, ReadsRequest, HasNoRequest, NeverHasRequest, MayBecomeRequest}
use Rattle.httparse.specs.Spans.{RequestExceeds, SectionExceeds}
use Rattle.up_wire.specs.declared.wire_fault.WireFault.{WireFault}
use Rattle.up_wire.specs.declared.wire_fault.WireFault.TheVariants as Fault
use Rattle.up_wire.specs.declared.step.Step.{Step}
use Rattle.up_wire.specs.declared.head.Head.{Head}
use Rattle.up_wire.specs.declared.head.Parsed.{Parsed}
use Rattle.up_wire.specs.declared.head_reader.HeadRead.{HeadRead}
use Rattle.up_wire.specs.declared.body.BodyRead.{BodyRead}
use Rattle.up_wire.specs.declared.body.BodyEnd.{BodyEnd}
use Rattle.up_wire.specs.declared.chunks.Trailers.{Trailers}
use Rattle.httparse.specs.Grammar as Line
use Rattle.up_wire.specs.declared.body.Batch.{Batch}
use Rattle.up_wire.specs.declared.line.Line.{Line as LineTaken}
use Rattle.up_wire.specs.declared.line.Line.TheVariants as Taken
use Rattle.up_wire.specs.declared.framing.Framing.{Framing}
use Rattle.up_wire.specs.Chunks.{IsLine, IsOpenLine, IsBadLine, IsOpenEnd, IsBadEnd, IsTrailers, AreOpenTrailers, AreBadTrailers}
use Rattle.up_wire.specs.Message.{IsBody, IsCutBody, IsBodyFault, Ending, open_yet, ended, failed, fields_of, is_bare, IsHead, IsEndOfInput, IsBadHead, IsTooLarge, IsReadFailure, IsBare}
use Rattle.up_wire.specs.Limits.{max_fields, max_interruptions, first_room}
use Rattle.up_wire.specs.Device.{Device, GaveUp, Counts, Tries, HasNoFeed, IsEndedLine}
use Rattle.up_wire.specs.Reading.{IsPrefix}

-- the bytes of a step
abbrev pub step_bytes : Step → List ℕ
step_bytes (Step.Byte byte) = byte ∷ []
step_bytes Step.Ended = []
step_bytes Step.Failed = []

-- how the input continues, by the source afterwards and the interruptions of the call
abbrev pub EndsSo : Ending → Device → ℕ → Type 0
EndsSo open_yet source count = count < max_interruptions
EndsSo ended source count = IsAtEnd source.bytes × (count < max_interruptions)
EndsSo failed source count = GaveUp source count × (count ≤ max_interruptions)

-- a call took these bytes from its source, and counted its interruptions; the input continues so
pub record Took (before after : Device) (old new : ℕ) (input : List ℕ) (ending : Ending) : Type 0 where
  pub bytes : Consumes before.bytes after.bytes input
  pub counts : Counts before after old new
  pub ends : EndsSo ending after new

-- what a call that reads did: the bytes that it took, how the input continues after them, and what both are
pub record HasRead (before after : Device) (old new : ℕ) (Is : List ℕ → Ending → Type 0) : Type 0 where
  pub input : List ℕ
  pub ending : Ending
  pub took : Took before after old new input ending
  pub is : Is input ending

-- the ending that a step means
abbrev pub step_ending : Step → Ending
step_ending (Step.Byte byte) = open_yet
step_ending Step.Ended = ended
step_ending Step.Failed = failed

-- the parts of a head that are kept
pub record HasHead (h : Head) (head : RequestHead) : Type 0 where
  pub method : h.method ≡ head.method
  pub target : h.target ≡ head.target
  pub minor : h.minor ≡ head.minor
  pub fields : h.fields ≡ fields_of head

-- what the parser says about the bytes so far
abbrev pub IsParsed : List ℕ → Parsed → Type 0
IsParsed text (Parsed.Whole h) =
    (head : RequestHead) × (rest : List ℕ) × ReadsRequest text head rest × (length head.fields ≤ max_fields) × HasHead h head
IsParsed text (Parsed.NoMemory bare) =
    (head : RequestHead) × (rest : List ℕ) × ReadsRequest text head rest × (length head.fields ≤ max_fields) × (bare ≡ is_bare head)
IsParsed text Parsed.Partial = HasNoRequest text × MayBecomeRequest text
IsParsed text Parsed.Invalid = NeverHasRequest text
IsParsed text Parsed.TooManyFields = RequestExceeds max_fields text

-- the faults before a whole head
abbrev pub IsHeadFault : List ℕ → Ending → WireFault → Bool → Type 0
IsHeadFault input ending Fault.BadHead bare = IsBadHead input ending × (bare ≡ false)
IsHeadFault input ending Fault.HeadTooLarge bare = IsTooLarge input × (bare ≡ false)
IsHeadFault input ending Fault.BadFraming bare = ⊥
IsHeadFault input ending Fault.UnknownCoding bare = ⊥
IsHeadFault input ending Fault.BodyTooLarge bare = ⊥
IsHeadFault input ending Fault.ReadFailed bare = IsReadFailure input ending × (bare ≡ false)
IsHeadFault input ending Fault.NoMemory bare = IsBare input bare
IsHeadFault input ending Fault.WriteFailed bare = ⊥

-- a whole head, and the parts of it that are kept; the input is still open
pub record IsHeadOf (input : List ℕ) (ending : Ending) (h : Head) : Type 0 where
  pub head : RequestHead
  pub is_head : IsHead input head []
  pub keeps : HasHead h head
  pub goes_on : ending ≡ open_yet

-- the result of reading a head
abbrev pub IsHeadRead : List ℕ → Ending → HeadRead → Type 0
IsHeadRead input ending (HeadRead.Whole h) = IsHeadOf input ending h
IsHeadRead input ending (HeadRead.Fault fault bare) = IsHeadFault input ending fault bare
IsHeadRead input ending HeadRead.End = IsEndOfInput input × (ending ≡ ended)

-- the fault of bytes that are no head: `waiting` if they can still become one, and otherwise what is wrong with them
abbrev pub IsFaultOfPartialHead : List ℕ → WireFault → WireFault → Type 0
IsFaultOfPartialHead text waiting fault =
    ((fault ≡ waiting) × MayBecomeRequest text)
    ⊎ (((fault ≡ Fault.BadHead) × NeverHasRequest text)
    ⊎ ((fault ≡ Fault.HeadTooLarge) × RequestExceeds max_fields text))

-- the result of reading a body
abbrev pub IsBodyRead : ℕ → Framing → List ℕ → Ending → BodyRead → Type 0
IsBodyRead limit framing input ending (BodyRead.Whole body) = IsBody limit framing body.items input × (ending ≡ open_yet)
IsBodyRead limit framing input ending (BodyRead.Cut body) = IsCutBody limit framing body.items input × ((ending ≡ ended) ⊎ (ending ≡ failed))
IsBodyRead limit framing input ending (BodyRead.Fault fault) = (fault ≡ Fault.NoMemory) ⊎ IsBodyFault limit framing input fault

-- a buffer has at most the room that it has at first, or twice its length
abbrev pub IsBounded : Vec ℕ Global → Type 0
IsBounded buffer = vec_capacity buffer ≤ max first_room (2 * vec_len buffer)

-- a buffer with this many bytes, and places after them, has at most the room that it has at first, or twice this number
abbrev pub IsBoundedBy : ℕ → Vec ℕ Global → Type 0
IsBoundedBy filled buffer = vec_capacity buffer ≤ max first_room (2 * filled)

-- the buffer of the body has no more room than that
abbrev pub HasBoundedBody : BodyRead → Type 0
HasBoundedBody (BodyRead.Whole body) = IsBounded body
HasBoundedBody (BodyRead.Cut body) = IsBounded body
HasBoundedBody (BodyRead.Fault fault) = ⊤

-- the ending that a batch means
abbrev pub batch_ending : Batch → Ending
batch_ending (Batch.Came count) = open_yet
batch_ending Batch.Ended = ended
batch_ending Batch.Failed = failed

-- the bytes of a batch: as many as it says, at least one and at most `most`, or none
abbrev pub IsBatch : Batch → ℕ → List ℕ → Type 0
IsBatch (Batch.Came count) most run = (length run ≡ count) × (0 < count) × (count ≤ most)
IsBatch Batch.Ended most run = run ≡ []
IsBatch Batch.Failed most run = run ≡ []

-- whether the bytes end in a line feed
abbrev pub EndsInFeed : List ℕ → Bool → Type 0
EndsInFeed text true = (front : List ℕ) × (text ≡ front ++ line_feed ∷ [])
EndsInFeed text false = (front : List ℕ) → text ≢ front ++ line_feed ∷ []

-- CRLF, or a line feed alone
abbrev pub is_line_end : List ℕ → Bool
is_line_end [] = false
is_line_end (a ∷ []) = a == line_feed
is_line_end (a ∷ b ∷ []) = (a == carriage_return) && (b == line_feed)
is_line_end (a ∷ b ∷ c ∷ rest) = false

-- how much of a line was taken: all of it, or a part, and why no more; `text` is the buffer with the taken part at its
-- end
abbrev pub IsLineTaken : ℕ → List ℕ → List ℕ → Ending → LineTaken → Type 0
IsLineTaken most text line ending Taken.Whole = IsEndedLine line × (ending ≡ open_yet)
IsLineTaken most text line ending Taken.Full = HasNoFeed line × (length text ≡ most) × (ending ≡ open_yet)
IsLineTaken most text line ending Taken.Ended = HasNoFeed line × (length text < most) × (ending ≡ ended)
IsLineTaken most text line ending Taken.Failed = HasNoFeed line × (length text < most) × (ending ≡ failed)
IsLineTaken most text line ending Taken.NoMemory = HasNoFeed line × (ending ≡ open_yet)

-- why reading stopped: the input breaks off as `cut` says, or is malformed as `bad` says
abbrev pub IsStop : Ending → Type 0 → Type 0 → BodyEnd → Type 0
IsStop ending cut bad BodyEnd.Ended = cut × (ending ≡ ended)
IsStop ending cut bad BodyEnd.Failed = cut × (ending ≡ failed)
IsStop ending cut bad BodyEnd.Bad = bad
IsStop ending cut bad BodyEnd.NoMemory = ending ≡ open_yet

-- the result for a body that stops so, with the bytes that arrived
abbrev pub stopped : BodyEnd → Vec ℕ Global → BodyRead
stopped BodyEnd.Ended body = BodyRead.Cut body
stopped BodyEnd.Failed body = BodyRead.Cut body
stopped BodyEnd.Bad body = BodyRead.Fault Fault.BadFraming
stopped BodyEnd.NoMemory body = BodyRead.Fault Fault.NoMemory

-- a body of this size, or a part of it
abbrev pub IsBytesRead : {X : Type 0} → ℕ → List ℕ → Ending → Result X BodyEnd → Type 0
IsBytesRead size bytes ending (Ok done) = (length bytes ≡ size) × (ending ≡ open_yet)
IsBytesRead size bytes ending (Err stop) = IsStop ending (length bytes < size) ⊥ stop

-- the buffer has the bytes that arrived, at most `size`, and no more room than is allowed
pub record HoldsFront (size : ℕ) (came : List ℕ) (body : Vec ℕ Global) : Type 0 where
  pub items : body.items ≡ came
  pub within : length came ≤ size
  pub bounded : IsBounded body

-- the result of reading the prefix of a body; nothing is said if memory ran out
abbrev pub IsFrontRead : {X : Type 0} → ℕ → List ℕ → Ending → Vec ℕ Global → Result X BodyEnd → Type 0
IsFrontRead size came ending body (Ok done) = HoldsFront size came body × (ending ≡ open_yet)
IsFrontRead size came ending body (Err BodyEnd.Ended) = HoldsFront size came body × (length came < size) × (ending ≡ ended)
IsFrontRead size came ending body (Err BodyEnd.Failed) = HoldsFront size came body × (length came < size) × (ending ≡ failed)
IsFrontRead size came ending body (Err BodyEnd.Bad) = ⊥
IsFrontRead size came ending body (Err BodyEnd.NoMemory) = ⊤

-- a chunk line with this size; the input is still open
pub record IsLineOf (input : List ℕ) (ending : Ending) (size : ℕ) : Type 0 where
  pub line : ChunkLine
  pub is_line : IsLine line
  pub text_is : input ≡ print_chunk_line line
  pub size_is : size ≡ chunk_size line
  pub goes_on : ending ≡ open_yet

-- the result of reading a chunk line: its size
abbrev pub IsLineRead : List ℕ → Ending → Result ℕ BodyEnd → Type 0
IsLineRead input ending (Ok size) = IsLineOf input ending size
IsLineRead input ending (Err stop) = IsStop ending (IsOpenLine input) (IsBadLine input) stop

-- the result of reading one byte
abbrev pub IsByteRead : {X : Type 0} → ℕ → List ℕ → Ending → Result X BodyEnd → Type 0
IsByteRead wanted input ending (Ok done) = (input ≡ wanted ∷ []) × (ending ≡ open_yet)
IsByteRead wanted input ending (Err stop) = IsStop ending (input ≡ []) ((b : ℕ) × (input ≡ b ∷ []) × (b ≢ wanted)) stop

-- the result of reading CRLF
abbrev pub IsCrlfRead : {X : Type 0} → List ℕ → Ending → Result X BodyEnd → Type 0
IsCrlfRead input ending (Ok done) = (input ≡ crlf_bytes) × (ending ≡ open_yet)
IsCrlfRead input ending (Err stop) = IsStop ending (IsOpenEnd input) (IsBadEnd input) stop

-- what the parser says about the bytes so far of a trailer section
abbrev pub AreParsed : List ℕ → Trailers → Type 0
AreParsed text Trailers.Whole =
    (fields : List Line.Field) × (last : Line.LineEnd) × (rest : List ℕ) × ReadsSection text fields last rest × (length fields ≤ max_fields)
AreParsed text Trailers.Partial = HasNoSection text × MayBecomeSection text
AreParsed text Trailers.Bad = NeverHasSection text ⊎ SectionExceeds max_fields text

-- trailers break off after these whole lines, or the lines are malformed
abbrev pub IsStopBehind : List ℕ → BodyEnd → BodyEnd → Type 0
IsStopBehind lines stop result =
    ((result ≡ stop) × MayBecomeSection lines) ⊎ ((result ≡ BodyEnd.Bad) × (NeverHasSection lines ⊎ SectionExceeds max_fields lines))

-- the result of reading a trailer section
abbrev pub AreTrailersRead : {X : Type 0} → List ℕ → Ending → Result X BodyEnd → Type 0
AreTrailersRead input ending (Ok done) = IsTrailers input × (ending ≡ open_yet)
AreTrailersRead input ending (Err stop) = IsStop ending (AreOpenTrailers input) (AreBadTrailers input) stop

-- a prefix of the text was written: all of it if `done`
abbrev pub WritesIf : Option (List ℕ) → Option (List ℕ) → List ℕ → Bool → Type 0
WritesIf before after text done =
    (front : List ℕ) × IsPrefix front text × Appends before after front × (done ≡ true → front ≡ text)

-- what a call that writes this text did: it wrote a prefix, all of it if `done`, and counted the interruptions of its
-- sink
pub record HasWritten (before after : Device) (old new : ℕ) (text : List ℕ) (done : Bool) : Type 0 where
  pub written : WritesIf before.bytes after.bytes text done
  pub tries : Tries before after old new done
