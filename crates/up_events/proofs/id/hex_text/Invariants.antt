use Rattle.std.proofs.Common.{◌≡◌, ◌≤◌, ◌++◌, length, drop}
use Rattle.up_events.specs.IdText.{hex_digits}
use Rattle.up_events.proofs.id.hex_text.Given as goal

abbrev pub invariant-loop-places : goal.invariant-loop-places
invariant-loop-places l = (l.places ≤ 32) × (length l.text ≡ 32) × (hex_digits l.places l.rest ++ drop l.places l.text ≡ hex_digits 32 l.number)

abbrev pub decreases-loop-places : goal.decreases-loop-places
decreases-loop-places l = l.places
