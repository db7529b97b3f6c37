use Rattle.std.proofs.Common.{◌≡◌, ◌++◌, take}
use Rattle.up_message.specs.Joins.{pieced}
use Rattle.up_machine.proofs.pieces.add_shared.Given as goal

abbrev pub invariant-loop-piece : goal.invariant-loop-piece
invariant-loop-piece l = l.segments ≡ l.fn.segments ++ pieced (take l.piece-index l.pieces)
