use Rattle.std.proofs.Common.{◌≡◌, ◌≤◌, ◌+◌, length, drop}
use Rattle.up_machine.specs.State.{joined_parts}
use Rattle.up_machine.proofs.parts.sum_within.Given as goal

abbrev pub invariant-loop-part : goal.invariant-loop-part
invariant-loop-part l = (l.sum ≤ l.most) × (l.sum + length (joined_parts l.uploads (drop l.part-index l.parts)) ≡ length (joined_parts l.uploads l.parts))
