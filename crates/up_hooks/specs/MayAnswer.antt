-- The verdict of a server's closures together.
use Rattle.std.specs.Prelude.{◌≡◌, ◌≢◌, List, ◌∷◌, ◌++◌, All, Option}
use Rattle.std.specs.Fn.{FnReturnsAt}
use Rattle.std.specs.Borrow.{Bor}
use denote.Param.Members.{Mut}
use Rattle.up_machine.specs.declared.ask.Ask.{Ask}
use Rattle.up_machine.specs.declared.ask.Point.{Point}
use Rattle.up_machine.specs.declared.ask.Point.TheVariants.{Finish}
use Rattle.up_machine.specs.declared.ask.Verdict.{Verdict}
use Rattle.up_machine.specs.declared.ask.Verdict.TheVariants.{Allow, Refuse}
use Rattle.up_machine.specs.declared.plan.Asked.{Asked}
use Rattle.up_machine.specs.declared.plan.Asked.TheVariants as asked
use Rattle.up_hooks.specs.declared.pre_hook.PreHook.{PreHook}
use Rattle.up_hooks.specs.declared.pre_hooks.PreHooks.{PreHooks}
use Rattle.up_hooks.specs.declared.origin.Origin.{Origin}
use Rattle.up_hooks.specs.declared.request_hook.RequestHook.{RequestHook}
use Rattle.up_hooks.specs.MayAnswerRequest.{EndsAt}

module _ {X : Type 0} {F : X → Type 0} {g : Mut ((i : X) × F i) (Bor Ask × Unit {0}) Verdict} where
  -- the point at which the closure is asked
  abbrev pub point_of : PreHook X F g → Point
  point_of hook = hook.point

  -- the closure itself
  abbrev pub judge_of : PreHook X F g → (i : X) × F i
  judge_of hook = (hook.judge.vtable, hook.judge.value)

  -- the closure may return this verdict
  abbrev pub MayReturn : PreHook X F g → Ask → Verdict → Type 0
  MayReturn hook ask verdict = FnReturnsAt g (judge_of hook) ask verdict

  -- the closure is for another point, or it may allow
  abbrev pub LetsPassOrAllows : Ask → PreHook X F g → Type 0
  LetsPassOrAllows ask hook = point_of hook ≡ ask.point → MayReturn hook ask Allow

  -- each closure of the point allows, for which pre-finish has its own value; or the first closure that does not allow
  -- returned this refusal. `Skipped` is never the result
  abbrev pub HooksMayAnswer : List (PreHook X F g) → Ask → Asked → Type 0
  HooksMayAnswer hooks ask asked.Skipped = ⊥
  HooksMayAnswer hooks ask asked.Allowed = (ask.point ≢ Finish) × All (LetsPassOrAllows ask) hooks
  HooksMayAnswer hooks ask asked.AllowedFinish = (ask.point ≡ Finish) × All (LetsPassOrAllows ask) hooks
  HooksMayAnswer hooks ask (asked.Refused status reason) =
      (before : List (PreHook X F g)) × (hook : PreHook X F g) × (after : List (PreHook X F g))
      × (hooks ≡ before ++ hook ∷ after)
      × All (LetsPassOrAllows ask) before
      × (point_of hook ≡ ask.point)
      × MayReturn hook ask (Refuse status reason)

module _ {X Y : Type 0} {F : X → Type 0} {G : Y → Type 0}
    {g : Mut ((i : X) × F i) (Bor Ask × Unit {0}) Verdict} {h : Mut ((i : Y) × G i) (Bor Ask × (Bor Origin × Unit {0})) Verdict} where
  -- the closures, in the order in which they are asked
  abbrev pub listed : PreHooks X Y F G g h → List (PreHook X F g)
  listed hooks = hooks.hooks.items

  -- the closure that is asked after them, if there is one
  abbrev pub last_of : PreHooks X Y F G g h → Option (RequestHook Y G h)
  last_of hooks = hooks.last

  -- what the closures may answer together about this request, the last one included
  abbrev pub ClosuresMayAnswerAt : PreHooks X Y F G g h → Ask → Origin → Asked → Type 0
  ClosuresMayAnswerAt hooks ask origin asked =
      (before : Asked) × HooksMayAnswer (listed hooks) ask before × EndsAt (last_of hooks) ask origin before asked

  -- the same about some request
  abbrev pub ClosuresMayAnswer : PreHooks X Y F G g h → Ask → Asked → Type 0
  ClosuresMayAnswer hooks ask asked = (origin : Origin) × ClosuresMayAnswerAt hooks ask origin asked
