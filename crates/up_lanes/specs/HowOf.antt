-- How a lane ended.
use Rattle.std.specs.Prelude.{Bool, true, false}
use Rattle.up_lanes.specs.declared.lane_end.How.{How}
use Rattle.up_lanes.specs.declared.lane_end.How.TheVariants.{Drained, Stopped}

-- whether it took the end
abbrev pub is_drained : How → Bool
is_drained Drained = true
is_drained Stopped = false
