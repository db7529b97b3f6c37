use Rattle.std.proofs.Common.{◌≡◌, ◌+◌, ◌-◌, ◌≤◌, List, ℕ, ◌++◌, length, vec_len}
use Rattle.up_wire.specs.Limits.{max_interruptions}
use Rattle.up_wire.specs.Device.{HasNoFeed}
use Rattle.up_wire.specs.Message.{open_yet}
use Rattle.up_wire.specs.Steps.{Took}
use Rattle.up_wire.proofs.line.take_line.Given as goal

abbrev pub invariant-runs : goal.invariant-runs
invariant-runs g l = record {
  line : (line : List ℕ) × Took (g.R.Source.device l.fn.source) (g.R.Source.device l.source) l.fn.interruptions l.interruptions line open_yet × (l.text.items ≡ l.fn.text.items ++ line) × HasNoFeed line;
  within : length l.text.items ≤ l.most;
}

abbrev pub decreases-runs : goal.decreases-runs
decreases-runs g l = (l.most - vec_len l.text) + (max_interruptions - l.interruptions)
