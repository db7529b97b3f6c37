use Rattle.std.proofs.Common.{◌-◌, ◌<◌}
use Rattle.std.specs.Io.KnownBytes.{Keeps}
use Rattle.up_wire.specs.Device.{Counts}
use Rattle.up_wire.specs.Limits.{max_interruptions}
use Rattle.up_wire.proofs.write.send_on.Given as goal

abbrev pub invariant-tries : goal.invariant-tries
invariant-tries g l = record {
  kept : Keeps (g.W.Sink.device l.fn.sink).bytes (g.W.Sink.device l.sink).bytes;
  counts : Counts (g.W.Sink.device l.fn.sink) (g.W.Sink.device l.sink) l.fn.interruptions l.interruptions;
  patient : l.interruptions < max_interruptions;
}

abbrev pub decreases-tries : goal.decreases-tries
decreases-tries g l = max_interruptions - l.interruptions
