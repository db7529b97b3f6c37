-- How a lent book with counted ids answers requests.
use Rattle.std.specs.Prelude.{◌≡◌, ◌⊎◌, ◌+◌, ◌≤◌, ℕ, Result, Ok, Err}
use Rattle.up_events.specs.Delivery.{IsPrefix}
use Rattle.up_headers.specs.declared.request.Request.{Request}
use Rattle.up_headers.specs.declared.request.Request.TheVariants as request
use Rattle.up_machine.specs.Decision.{decide, decide_plan}
use Rattle.up_machine.specs.Refusals.{response_of}
use Rattle.up_machine.specs.State.{State, after}
use Rattle.up_machine.specs.declared.plan.Asked.{Asked}
use Rattle.up_machine.specs.declared.plan.Done.{Done}
use Rattle.up_machine.specs.declared.refusal.Refusal.{Refusal}
use Rattle.up_message.specs.Refused.{out_of_memory}
use Rattle.up_message.specs.declared.response.Response.{Response}
use Rattle.up_dispatch.specs.Answering.{KeeperState}
use Rattle.up_dispatch.specs.Counts.{number_after}
use Rattle.up_dispatch.specs.Keeps.{ClosureAnswers, IsAsked}

-- the last id that was given, after a request: each creation takes the next one
abbrev pub last_after : ℕ → Request → ℕ
last_after last request.Options = last
last_after last (request.Create new) = number_after last
last_after last (request.Head u) = last
last_after last (request.Patch p) = last
last_after last (request.Delete u) = last
last_after last (request.Get u) = last

-- the decision is answered, and carried out unless it is a refusal
abbrev pub IsDecided : State → State → Request → ℕ → Response → Result Done Refusal → Type 0
IsDecided old new request id response (Ok done) = (response ≡ done.response) × (new ≡ after old request id done.change)
IsDecided old new request id response (Err refused) = (response ≡ response_of refused) × (new ≡ old)

-- memory ran out, and nothing has changed
abbrev pub IsOutOfMemory : State → State → Response → Type 0
IsOutOfMemory old new response = (response ≡ out_of_memory) × (new ≡ old)

-- a request is decided, with what the closures answered to its plan
abbrev pub IsCommitted : ClosureAnswers → State → Request → ℕ → Result Done Refusal → Type 0
IsCommitted gives s request id result =
    (asked : Asked) × IsAsked gives (decide_plan s request) asked × (result ≡ decide s request id asked)

-- the request is decided, and the decision is answered and carried out
abbrev pub IsCarriedOut : ClosureAnswers → State → State → Request → ℕ → Response → Type 0
IsCarriedOut gives old new request id response =
    (decision : Result Done Refusal) × IsCommitted gives old request id decision × IsDecided old new request id response decision

-- the decision is answered, or memory ran out
abbrev pub IsOutcome : ClosureAnswers → State → Request → ℕ → Response → State → Type 0
IsOutcome gives old request id response new = IsCarriedOut gives old new request id response ⊎ IsOutOfMemory old new response

-- a request is decided with the next id, and answered
pub record IsAnsweredTo (gives : ClosureAnswers) (old new : KeeperState State ℕ) (request : Request) (response : Response) : Type 0 where
  pub answer : IsOutcome gives old.state request (number_after old.ids) response new.state
  pub ids : new.ids ≡ last_after old.ids request

-- after this many messages: the lanes are the same, the history has only grown at its end, and each message took at
-- most one id
pub record GoesOn (turns : ℕ) (old new : KeeperState State ℕ) : Type 0 where
  pub lanes : new.state.journal.lanes ≡ old.state.journal.lanes
  pub history : IsPrefix old.state.journal.accepted new.state.journal.accepted
  pub ids : new.ids ≤ old.ids + turns
