-- There is a courier for each lane so far, and none was handed anything.
use Rattle.std.proofs.Common.{◌≡◌, [], All, length}
use Rattle.std.specs.Bool.{⊤}
use Rattle.up_server.proofs.line_delivery.line_couriers.Given as goal

abbrev pub invariant-loop : goal.invariant-loop
invariant-loop g l =
    (length l.made.items ≡ l.counter) × All (λ courier. ⊤ × (courier.handed.items ≡ [])) l.made.items
