use Rattle.std.proofs.Common.{◌≡◌, ◌++◌, take}
use Rattle.up_tie.proofs.written.add_changes.Given as goal

abbrev pub invariant-loop-change : goal.invariant-loop-change
invariant-loop-change g l = l.front ≡ l.initial.front ++ take l.change-index l.changes
