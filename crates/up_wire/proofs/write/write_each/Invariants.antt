use Rattle.std.proofs.Common.{take, true}
use Rattle.up_wire.specs.Steps.{HasWritten}
use Rattle.up_wire.specs.Response.{joined_slices}
use Rattle.up_wire.proofs.write.write_each.Given as goal

abbrev pub invariant-loop-piece : goal.invariant-loop-piece
invariant-loop-piece g l =
    HasWritten (g.W.Sink.device l.fn.sink) (g.W.Sink.device l.sink) l.fn.interruptions l.interruptions (joined_slices (take l.piece-index l.pieces)) true
