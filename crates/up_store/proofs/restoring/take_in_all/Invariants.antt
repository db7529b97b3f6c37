use Rattle.std.proofs.Common.{◌≡◌, ◌+◌, ◌-◌, ◌++◌, length}
use Rattle.up_store.proofs.restoring.take_in_all.Given as goal

abbrev pub invariant-loop-entry : goal.invariant-loop-entry
invariant-loop-entry g l =
    (l.fn.entries ≡ l.yielded ++ l.entry-iterator.rest.items) × (l.place ≡ length l.front - length l.fn.entries + length l.yielded)
