use Rattle.std.proofs.Common.{◌≡◌, ◌+◌, ◌-◌, ◌<◌, List, ℕ, ◌++◌, length}
use Rattle.std.specs.Io.KnownBytes.{Appends}
use Rattle.up_wire.specs.Device.{Counts}
use Rattle.up_wire.specs.Limits.{max_interruptions}
use Rattle.up_wire.proofs.write.write_all.Given as goal

abbrev pub invariant-pieces : goal.invariant-pieces
invariant-pieces g l =
    ((front : List ℕ) × (l.bytes ≡ front ++ l.rest) × Appends (g.W.Sink.device l.fn.sink).bytes (g.W.Sink.device l.sink).bytes front)
    × (l.interruptions < max_interruptions)
    × Counts (g.W.Sink.device l.fn.sink) (g.W.Sink.device l.sink) l.fn.interruptions l.interruptions

abbrev pub decreases-pieces : goal.decreases-pieces
decreases-pieces g l = length l.rest + (max_interruptions - l.interruptions)
