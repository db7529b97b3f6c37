-- The answer to one message, the state after it, and a conversation turn by turn.
use Rattle.std.specs.Prelude.{◌≡◌, ◌⊎◌, ⊤, ℕ, zero, suc, ◌+◌, ◌==◌, ◌||◌, Bool, true, false, List, Option, Some, None, Result, Ok, Err}
use Rattle.std.specs.Io.KnownBytes.{Appends}
use Rattle.up_headers.specs.Table.{IsRequestOf}
use Rattle.up_headers.specs.declared.header_fault.HeaderFault.{HeaderFault}
use Rattle.up_headers.specs.declared.request.Request.{Request}
use Rattle.up_headers.specs.declared.request.Request.TheVariants as request
use Rattle.up_dispatch.specs.Replies.{IsReply, reply_to_header_fault, reply_to_wire_fault}
use Rattle.up_dispatch.specs.declared.ended.TheConstants.{MAX_MESSAGES}
use Rattle.up_dispatch.specs.declared.ended.Ended.{Ended}
use Rattle.up_dispatch.specs.declared.ended.Ended.TheVariants.{Closed, Cut, ReadFailed, WriteFailed}
use Rattle.up_wire.specs.Device.{Device, GaveUp, interrupted}
use Rattle.up_wire.specs.Reading.{IsReading}
use Rattle.up_wire.specs.Response.{WritesFront, response_text}
use Rattle.up_wire.specs.Shown.{IsShownFor}
use Rattle.up_message.specs.declared.message.Message.{Message}
use Rattle.up_wire.specs.declared.taken.Taken.{Taken}
use Rattle.up_message.specs.declared.response.Response.{Response}
use Rattle.up_wire.specs.declared.wire_fault.WireFault.{WireFault}
use Rattle.up_wire.specs.declared.wire_fault.WireFault.TheVariants as Fault

-- how a request may be answered, with the state before it and after it
abbrev pub Answering : Type 0 → Type 1
Answering C = C → C → Request → Response → Type 0

-- the answer to a message that was read with this result, and the state after it
abbrev pub IsAnswered : {C : Type 0} → Answering C → C → C → Response → Result Request HeaderFault → Type 0
IsAnswered answers old new response (Err fault) = IsReply (reply_to_header_fault fault) response × (new ≡ old)
IsAnswered answers old new response (Ok request) = answers old new request response

-- the message is read as a request, the request is decided, and that is answered
abbrev pub IsTurn : {C : Type 0} → Answering C → Message → ℕ → C → C → Response → Type 0
IsTurn answers m max_size old new response =
    (read : Result Request HeaderFault) × IsRequestOf m max_size read × IsAnswered answers old new response read

-- an append is carried out, and its answer is dropped; no other request is carried out
abbrev pub IsCutCarriedOut : {C : Type 0} → Answering C → C → C → Result Request HeaderFault → Type 0
IsCutCarriedOut answers old new (Err fault) = new ≡ old
IsCutCarriedOut answers old new (Ok request.Options) = new ≡ old
IsCutCarriedOut answers old new (Ok (request.Create made)) = new ≡ old
IsCutCarriedOut answers old new (Ok (request.Head u)) = new ≡ old
IsCutCarriedOut answers old new (Ok (request.Patch p)) = (response : Response) × answers old new (request.Patch p) response
IsCutCarriedOut answers old new (Ok (request.Delete u)) = new ≡ old
IsCutCarriedOut answers old new (Ok (request.Get u)) = new ≡ old

-- a message that broke off is read as a request, and carried out if it is an append
abbrev pub IsCutTurn : {C : Type 0} → Answering C → Message → ℕ → C → C → Type 0
IsCutTurn answers m max_size old new =
    (read : Result Request HeaderFault) × IsRequestOf m max_size read × IsCutCarriedOut answers old new read

-- what is known of the disk that bodies are read from: that each read was true, and that one failed
pub record DiskFacts : Type 1 where
  pub is_true : Type 0
  pub has_failed : Type 0

-- all bytes are in memory
abbrev pub no_disk : DiskFacts
no_disk = record { is_true = ⊤; has_failed = false ≡ true }

-- the whole text was written, and the conversation is closed or goes on; or a prefix of it was written, and no more can
-- be
abbrev pub Sends : DiskFacts → Device → Device → List ℕ → Bool → Option Ended → Type 0
Sends disk before after text close None = (close ≡ false) × Appends before.bytes after.bytes text
Sends disk before after text close (Some Closed) = (close ≡ true) × Appends before.bytes after.bytes text
Sends disk before after text close (Some Cut) = ⊥
Sends disk before after text close (Some ReadFailed) = ⊥
Sends disk before after text close (Some WriteFailed) =
    WritesFront before.bytes after.bytes text × (GaveUp after (interrupted before after) ⊎ disk.has_failed)

-- a response was sent with what the disk showed for its body
pub record SendsShown (disk : DiskFacts) (before after : Device) (r : Response) (bare close : Bool) (ended : Option Ended) : Type 0 where
  pub body : List ℕ
  pub is_shown : IsShownFor disk.is_true r.body body
  pub sends : Sends disk before after (response_text (record r { body = body }) bare close) close ended

-- the faults that are not answered, and how the conversation ends after them
abbrev pub unanswered : WireFault → Option Ended
unanswered Fault.BadHead = None
unanswered Fault.HeadTooLarge = None
unanswered Fault.BadFraming = None
unanswered Fault.UnknownCoding = None
unanswered Fault.BodyTooLarge = None
unanswered Fault.ReadFailed = Some ReadFailed
unanswered Fault.NoMemory = None
unanswered Fault.WriteFailed = Some WriteFailed

-- the answer to a fault closes the conversation; if there is none, nothing is written
abbrev pub IsFaultSent : DiskFacts → Option Ended → WireFault → Bool → Device → Device → Option Ended → Type 0
IsFaultSent disk None fault bare before after ended =
    (response : Response) × IsReply (reply_to_wire_fault fault) response
    × SendsShown disk before after response bare true ended
IsFaultSent disk (Some how) fault bare before after ended = (after ≡ before) × (ended ≡ Some how)

-- what was taken from the input is answered if it has an answer, and only a message changes the state
abbrev pub IsServed : {C : Type 0} → DiskFacts → Answering C → Taken → ℕ → Bool → C → C → Device → Device → Option Ended → Type 0
IsServed disk answers (Taken.Message m) max_size is_last old new before after ended =
    (response : Response) × IsTurn answers m max_size old new response
    × SendsShown disk before after response m.bare (is_last || m.close) ended
IsServed disk answers (Taken.Cut m) max_size is_last old new before after ended =
    IsCutTurn answers m max_size old new × (after ≡ before) × (ended ≡ Some Cut)
IsServed disk answers (Taken.Fault fault bare) max_size is_last old new before after ended =
    (new ≡ old) × IsFaultSent disk (unanswered fault) fault bare before after ended
IsServed disk answers Taken.End max_size is_last old new before after ended = (new ≡ old) × (after ≡ before) × (ended ≡ Some Closed)

-- the state of a conversation: what answers requests, the source that is read, and the sink that is written
pub record ConversationState (C : Type 0) : Type 0 where
  pub keeper_state : C
  pub source : Device
  pub sink : Device

abbrev pub conversation_state : {C : Type 0} → C → Device → Device → ConversationState C
conversation_state keeper_state source sink = record { keeper_state = keeper_state; source = source; sink = sink }

-- a message, a part of one, a fault or the end is taken from the input, and served
pub record TakesTurn {C : Type 0} (disk : DiskFacts) (answers : Answering C) (max_size : ℕ) (is_last : Bool)
    (old new : ConversationState C) (ended : Option Ended) : Type 0 where
  pub taken : Taken
  pub sink : Device
  pub is_reading : IsReading max_size old.source new.source old.sink sink taken
  pub is_served : IsServed disk answers taken max_size is_last old.keeper_state new.keeper_state sink new.sink ended

-- this many turns led from one state to the other, and none of them ended the conversation
unfoldable pub TurnsLeadTo : {C : Type 0} → DiskFacts → Answering C → ℕ → ℕ → ConversationState C → ConversationState C → Type 0
TurnsLeadTo {C = C} disk answers max_size zero old new = old ≡ new
TurnsLeadTo {C = C} disk answers max_size (suc turns) old new =
    (mid : ConversationState C) × TurnsLeadTo disk answers max_size turns old mid × TakesTurn disk answers max_size (turns + 1 == MAX_MESSAGES) mid new None

-- turns follow each other until one ends the conversation, at the latest the 10,000th
pub record Converses {C : Type 0} (disk : DiskFacts) (answers : Answering C) (max_size : ℕ) (old new : ConversationState C) (ended : Ended) : Type 0 where
  pub turns : ℕ
  pub last : ConversationState C
  pub passes : TurnsLeadTo disk answers max_size turns old last
  pub ends : TakesTurn disk answers max_size (turns + 1 == MAX_MESSAGES) last new (Some ended)
