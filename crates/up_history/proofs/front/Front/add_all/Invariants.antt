use Rattle.std.proofs.Common.{◌≡◌, ◌++◌, take}
use Rattle.up_history.proofs.front.Front.add_all.Given as goal

abbrev pub invariant-loop-entry : goal.invariant-loop-entry
invariant-loop-entry g l = l.self ≡ l.initial.self ++ take l.entry-index l.entries
