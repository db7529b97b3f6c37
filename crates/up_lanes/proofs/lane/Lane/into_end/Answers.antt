use Rattle.std.proofs.Common.{rules}
use Rattle.up_lanes.proofs.lane.Lane.into_end.Goals as goal

pub invariant_of-result : goal.invariant_of-result
invariant_of-result g c = search rules
