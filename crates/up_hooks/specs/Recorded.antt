-- What a recorder keeps.
use Rattle.std.specs.Prelude.{Bool, true, ◌&&◌, nat_le, List, All, IsTrue, map}
use Rattle.std.specs.Fn.{FnReturnsAt}
use Rattle.std.specs.Borrow.{Bor}
use denote.Param.Members.{Mut}
use Rattle.up_events.specs.declared.event.Event.{Event}
use Rattle.up_hooks.specs.declared.post_hook.Outcome.{Outcome}
use Rattle.up_hooks.specs.declared.post_hook.Outcome.TheVariants.{Done, Failed}
use Rattle.up_hooks.specs.declared.recorder.Recorder.{Recorder}

-- the events, without the outcomes
abbrev pub recorded_events : List (Event × Outcome) → List Event
recorded_events pairs = map (λ pair. pair.0) pairs

-- the events that a recorder was handed, each with the outcome from its closure
abbrev pub recorded_by : {F : Type 0} → Recorder F → List (Event × Outcome)
recorded_by recorder = recorder.pairs.items

-- the closure of a recorder
abbrev pub closure_of : {F : Type 0} → Recorder F → F
closure_of recorder = recorder.answer

-- the code of a failure is 1 to 99
abbrev pub has_code : Outcome → Bool
has_code Done = true
has_code (Failed code) = nat_le 1 code && nat_le code 99

module _ {F : Type 0} (g : Mut F (Bor Event × Unit {0}) Outcome) where
  -- the closure may return each outcome for its event
  abbrev pub AreAnswers : F → List (Event × Outcome) → Type 0
  AreAnswers f pairs = All (λ pair. FnReturnsAt g f pair.0 pair.1) pairs

  -- the closure returns no other codes
  abbrev pub AnswersWithCodes : F → Type 0
  AnswersWithCodes f = (event : Bor Event) (outcome : Outcome) → g.post f (event, tt) outcome → IsTrue (has_code outcome)
