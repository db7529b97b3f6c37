use Rattle.std.proofs.Common.{◌≡◌, ◌++◌, drop}
use Rattle.up_machine.specs.State.{joined_parts}
use Rattle.up_machine.proofs.parts.join.Given as goal

abbrev pub invariant-loop-part : goal.invariant-loop-part
invariant-loop-part l = l.bytes ++ joined_parts l.uploads (drop l.part-index l.parts) ≡ joined_parts l.uploads l.parts
