use Rattle.std.proofs.Common.{◌≡◌, ◌-◌, ◌≤◌, List, ℕ, ◌++◌, length, take}
use Rattle.up_wire.specs.Message.{open_yet}
use Rattle.up_wire.specs.Steps.{Took, IsBoundedBy}
use Rattle.up_wire.proofs.body.read_bytes.Given as goal

abbrev pub invariant-batches : goal.invariant-batches
invariant-batches g l = record {
  run : (run : List ℕ) × Took (g.R.Source.device l.fn.source) (g.R.Source.device l.source) l.fn.interruptions l.interruptions run open_yet × (take l.filled l.body.items ≡ l.fn.body.items ++ run);
  filled : l.filled ≤ length l.body.items;
  within : length l.body.items ≤ l.size;
  bounded : IsBoundedBy l.filled l.body;
}

abbrev pub decreases-batches : goal.decreases-batches
decreases-batches g l = l.size - l.filled
