-- The verdict of a closure that sees the request.
use Rattle.std.specs.Prelude.{◌≡◌, ◌⊎◌, ℕ, true, List, Option, Some, None}
use Rattle.std.specs.Borrow.{Bor}
use denote.Param.Members.{Mut}
use Rattle.up_machine.specs.declared.ask.Ask.{Ask}
use Rattle.up_machine.specs.Decision.{is_refusal}
use Rattle.up_machine.specs.declared.ask.Verdict.{Verdict}
use Rattle.up_machine.specs.declared.ask.Verdict.TheVariants.{Allow, Refuse}
use Rattle.up_machine.specs.declared.plan.Asked.{Asked}
use Rattle.up_machine.specs.declared.plan.Asked.TheVariants.{Refused}
use Rattle.up_hooks.specs.declared.origin.Origin.{Origin}
use Rattle.up_hooks.specs.declared.request_hook.RequestHook.{RequestHook}

module _ {X : Type 0} {F : X → Type 0} {g : Mut ((i : X) × F i) (Bor Ask × (Bor Origin × Unit {0})) Verdict} where
  -- the closure itself
  abbrev pub request_judge_of : RequestHook X F g → (i : X) × F i
  request_judge_of hook = (hook.judge.vtable, hook.judge.value)

  -- the closure may return this verdict
  pub record MayReturnAt (hook : RequestHook X F g) (ask : Ask) (origin : Origin) (verdict : Verdict) : Type 0 where
    pub shown_ask : Bor Ask
    pub shown_origin : Bor Origin
    pub shows_ask : shown_ask.now ≡ ask
    pub shows_origin : shown_origin.now ≡ origin
    pub says : g.post (request_judge_of hook) (shown_ask, (shown_origin, tt)) verdict

  -- the closure allows, and the answer of those before it stays
  abbrev pub Agrees : RequestHook X F g → Ask → Origin → Asked → Asked → Type 0
  Agrees hook ask origin before asked = MayReturnAt hook ask origin Allow × (asked ≡ before)

  -- the closure refuses
  abbrev pub Objects : RequestHook X F g → Ask → Origin → Asked → Type 0
  Objects hook ask origin asked =
      (status : ℕ) × (reason : List ℕ) × MayReturnAt hook ask origin (Refuse status reason) × (asked ≡ Refused status reason)

  -- a closure before it refused; or it was asked about this request, and agrees or objects
  abbrev pub IsAddedAt : RequestHook X F g → Ask → Origin → Asked → Asked → Type 0
  IsAddedAt hook ask origin before asked =
      ((is_refusal before ≡ true) × (asked ≡ before)) ⊎ (Agrees hook ask origin before asked ⊎ Objects hook ask origin asked)

  -- the same, if there is such a closure; otherwise the answer stays
  abbrev pub EndsAt : Option (RequestHook X F g) → Ask → Origin → Asked → Asked → Type 0
  EndsAt None ask origin before asked = asked ≡ before
  EndsAt (Some hook) ask origin before asked = IsAddedAt hook ask origin before asked
