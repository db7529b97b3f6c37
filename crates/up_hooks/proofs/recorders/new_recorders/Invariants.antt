use Rattle.std.proofs.Common.{◌≡◌, [], All, length}
use Rattle.up_hooks.specs.Recorded.{AreAnswers, AnswersWithCodes, recorded_events}
use Rattle.up_hooks.specs.declared.recorder.Recorder.{Recorder}
use Rattle.up_hooks.proofs.recorders.new_recorders.Given as goal

-- a sound recorder that was handed nothing
abbrev pub IsNew : (g : goal.Over) → Recorder g.row.F.Denot → Type 0
IsNew g recorder =
    (goal.F-IsAlwaysCallable g recorder.answer × AnswersWithCodes g.F.Fn recorder.answer × AreAnswers g.F.Fn recorder.answer recorder.pairs.items)
    × (recorded_events recorder.pairs.items ≡ [])

abbrev pub invariant-loop : goal.invariant-loop
invariant-loop g l = (length l.made.items ≡ l.counter) × All (IsNew g) l.made.items
