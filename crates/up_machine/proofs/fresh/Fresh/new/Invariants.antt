use Rattle.std.proofs.Common.{◌≡◌, [], All}
use Rattle.up_machine.proofs.fresh.Fresh.new.Given as goal

abbrev pub invariant-loop-lane : goal.invariant-loop-lane
invariant-loop-lane l = All (λ list. list.items ≡ []) l.lists.items
