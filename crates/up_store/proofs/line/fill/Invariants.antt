use Rattle.std.proofs.Common.{◌≡◌, ◌++◌}
use Rattle.up_store.proofs.line.fill.Given as goal

abbrev pub invariant-loop : goal.invariant-loop
invariant-loop l = l.batch.items ++ l.waiting.items ≡ l.fn.batch.items ++ l.fn.waiting.items
