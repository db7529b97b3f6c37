-- How a keeper and the closures answer requests.
use Rattle.std.specs.Prelude.{◌≡◌, ℕ, Result, Ok, Err}
use Rattle.up_headers.specs.declared.request.Request.{Request}
use Rattle.up_headers.specs.declared.request.Request.TheVariants as request
use Rattle.up_machine.specs.Refusals.{response_of}
use Rattle.up_machine.specs.declared.plan.Done.{Done}
use Rattle.up_machine.specs.declared.refusal.Refusal.{Refusal}
use Rattle.up_message.specs.declared.response.Response.{Response}
use Rattle.up_dispatch.specs.Keeps.{Keeping, Keeps}
use Rattle.up_dispatch.specs.Replies.{IsReply}

-- the answer to a request: the response of what was done, or the reply to the refusal
abbrev pub IsResponseTo : Result Done Refusal → Response → Type 0
IsResponseTo (Ok done) response = response ≡ done.response
IsResponseTo (Err refusal) response = IsReply (response_of refusal) response

-- a request gets one plan and at most one commit, and the result is answered
abbrev pub Answered : {S : Type 0} → Keeping S → S → Request → ℕ → Response → S → Type 0
Answered k s request id response t = (result : Result Done Refusal) × Keeps k s request id result t × IsResponseTo result response

-- how a keeper and the closures answer requests, if each has this id
abbrev pub answers_with : {S : Type 0} → Keeping S → ℕ → S → S → Request → Response → Type 0
answers_with k id s t request response = Answered k s request id response t

-- what a source of ids may give: the source before the call, the id, and the source after it
abbrev pub Drawing : Type 0 → Type 1
Drawing D = D → ℕ → D → Type 0

-- a creation takes the next id, even if it is refused; no other request takes one
abbrev pub TakesId : {D : Type 0} → Drawing D → D → Request → ℕ → D → Type 0
TakesId draws d request.Options id e = (id ≡ 0) × (e ≡ d)
TakesId draws d (request.Create new) id e = draws d id e
TakesId draws d (request.Head u) id e = (id ≡ 0) × (e ≡ d)
TakesId draws d (request.Patch p) id e = (id ≡ 0) × (e ≡ d)
TakesId draws d (request.Delete u) id e = (id ≡ 0) × (e ≡ d)
TakesId draws d (request.Get u) id e = (id ≡ 0) × (e ≡ d)

-- what is known of the keeper, and the source of ids
pub record KeeperState (S D : Type 0) : Type 0 where
  pub state : S
  pub ids : D

abbrev pub keeper_state : {S D : Type 0} → S → D → KeeperState S D
keeper_state state ids = record { state = state; ids = ids }

-- a request is answered with the id that it takes
pub record Serves {S D : Type 0} (k : Keeping S) (draws : Drawing D)
    (old new : KeeperState S D) (request : Request) (response : Response) : Type 0 where
  pub id : ℕ
  pub takes : TakesId draws old.ids request id new.ids
  pub answered : Answered k old.state request id response new.state
