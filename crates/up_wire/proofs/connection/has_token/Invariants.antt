use Rattle.std.proofs.Common.{◌≡◌, length}
use Rattle.up_wire.specs.Framing.{has_token}
use Rattle.up_wire.proofs.connection.has_token.Given as goal

abbrev pub invariant-pieces : goal.invariant-pieces
invariant-pieces l = has_token l.token l.rest ≡ has_token l.token l.value

abbrev pub decreases-pieces : goal.decreases-pieces
decreases-pieces l = length l.rest
