-- A request makes an upload complete exactly if its change results in a post-finish.
use Rattle.std.specs.Prelude.{◌≡◌, ℕ, Bool, true, false, List, Option, Some, None, Ok}
use Rattle.std.specs.List.{list_any}
use Rattle.up_events.specs.History.{EventBody, steps_of}
use Rattle.up_events.specs.Log.{is_finish}
use Rattle.up_events.specs.declared.event.Accepted.{Accepted}
use Rattle.up_headers.specs.declared.request.Request.{Request}
use Rattle.up_machine.specs.Decision.{completes, decide}
use Rattle.up_machine.specs.Fits.{IsSoundBook}
use Rattle.up_machine.specs.State.{State}
use Rattle.up_machine.specs.declared.plan.Asked.{Asked}
use Rattle.up_machine.specs.declared.plan.Asked.TheVariants.{AllowedFinish}
use Rattle.up_machine.specs.declared.plan.Done.{Done}

-- whether one of these events is a post-finish
abbrev pub has_finish : List EventBody → Bool
has_finish steps = list_any (λ step. is_finish step.0) steps

-- whether a change that follows these results in a post-finish
abbrev pub tells_finish : List Accepted → Option Accepted → Bool
tells_finish before None = false
tells_finish before (Some change) = has_finish (steps_of before change)

-- a request that is carried out results in a post-finish exactly if it makes an upload complete
abbrev pub CompletingTellsFinish : Type 0
CompletingTellsFinish =
    (s : State) (request : Request) (id : ℕ) (asked : Asked) (done : Done)
    → IsSoundBook s
    → decide s request id asked ≡ Ok done
    → tells_finish s.journal.accepted done.change ≡ completes s request

-- the closures were then asked whether the upload may be complete, and none refused
abbrev pub FinishIsAllowed : Type 0
FinishIsAllowed =
    (s : State) (request : Request) (id : ℕ) (asked : Asked) (done : Done)
    → IsSoundBook s
    → decide s request id asked ≡ Ok done
    → tells_finish s.journal.accepted done.change ≡ true
    → asked ≡ AllowedFinish
