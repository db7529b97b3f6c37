use Rattle.std.proofs.Common.{◌≡◌, ◌-◌, ◌<◌, ◌≤◌, List, ℕ, [], ◌∷◌, length, take}
use Rattle.up_wire.specs.Message.{open_yet}
use Rattle.up_wire.specs.Limits.{large}
use Rattle.up_wire.specs.Steps.{Took, IsBounded}
use Rattle.up_wire.proofs.body.read_large_front.Given as goal

abbrev pub invariant-batches : goal.invariant-batches
invariant-batches g l = record {
  run : (run : List ℕ) × Took (g.R.Source.device l.fn.source) (g.R.Source.device l.source) l.fn.interruptions l.interruptions run open_yet × (take l.filled l.front ≡ l.fn.first ∷ run);
  some : 0 < l.filled;
  filled : l.filled ≤ large;
  places : length l.front ≡ large;
  empty : l.body.items ≡ [];
  bounded : IsBounded l.body;
}

abbrev pub decreases-batches : goal.decreases-batches
decreases-batches g l = large - l.filled
