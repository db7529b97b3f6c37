use Rattle.up_lanes.proofs.known.Known.learn.Given as goal

abbrev pub decreases-loop-details : goal.decreases-loop-details
decreases-loop-details l = goal.left-loop-details l
