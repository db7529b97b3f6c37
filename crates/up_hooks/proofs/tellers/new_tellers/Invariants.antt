use Rattle.std.proofs.Common.{◌≡◌, [], All, length}
use Rattle.up_hooks.specs.Recorded.{AnswersWithCodes}
use Rattle.up_hooks.specs.declared.teller.Teller.{Teller}
use Rattle.up_hooks.proofs.tellers.new_tellers.Given as goal

-- a sound teller that was handed nothing
abbrev pub IsNew : (g : goal.Over) → Teller g.row.F.Denot → Type 0
IsNew g teller =
    (goal.F-IsAlwaysCallable g teller.answer × AnswersWithCodes g.F.Fn teller.answer)
    × (teller.handed.items ≡ [])

abbrev pub invariant-loop : goal.invariant-loop
invariant-loop g l = (length l.made.items ≡ l.counter) × All (IsNew g) l.made.items
