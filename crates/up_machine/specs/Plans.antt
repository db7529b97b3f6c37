-- What a plan says about the commit that follows it.
use Rattle.std.specs.Prelude.{◌≡◌, ℕ, Err}
use Rattle.up_headers.specs.declared.request.Request.{Request}
use Rattle.up_machine.specs.Decision.{decide, decide_plan}
use Rattle.up_machine.specs.State.{State}
use Rattle.up_machine.specs.declared.plan.Asked.{Asked}
use Rattle.up_machine.specs.declared.refusal.Refusal.{Refusal}

-- what the plan refuses, the commit refuses in the same way, with any id and whatever the closures said
abbrev pub RefusalsAreKept : Type 0
RefusalsAreKept =
    (s : State) (request : Request) (id : ℕ) (asked : Asked) (refusal : Refusal)
    → decide_plan s request ≡ Err refusal → decide s request id asked ≡ Err refusal
