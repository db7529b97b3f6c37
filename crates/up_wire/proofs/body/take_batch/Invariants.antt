use Rattle.std.proofs.Common.{◌-◌, []}
use Rattle.up_wire.specs.Limits.{max_interruptions}
use Rattle.up_wire.specs.Message.{open_yet}
use Rattle.up_wire.specs.Steps.{Took}
use Rattle.up_wire.proofs.body.take_batch.Given as goal

abbrev pub invariant-tries : goal.invariant-tries
invariant-tries g l = Took (g.R.Source.device l.fn.source) (g.R.Source.device l.source) l.fn.interruptions l.interruptions [] open_yet

abbrev pub decreases-tries : goal.decreases-tries
decreases-tries g l = max_interruptions - l.interruptions
