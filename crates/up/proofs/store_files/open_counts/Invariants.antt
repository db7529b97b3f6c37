use Rattle.std.proofs.Common.{◌≡◌, vec_len}
use Rattle.up.proofs.store_files.open_counts.Given as goal

abbrev pub invariant-loop-lane : goal.invariant-loop-lane
invariant-loop-lane l = vec_len l.counts ≡ l.lane
