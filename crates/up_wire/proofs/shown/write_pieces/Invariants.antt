use Rattle.std.proofs.Common.{take, true}
use Rattle.up_message.specs.Joins.{pieced}
use Rattle.up_wire.specs.Shown.{Shows}
use Rattle.up_wire.proofs.shown.write_pieces.Given as goal

abbrev pub invariant-loop-piece : goal.invariant-loop-piece
invariant-loop-piece g l = record {
  shown : Shows g.W.Sink g.S.Shelf l.fn.sink l.sink l.fn.shelf l.shelf l.fn.interruptions l.interruptions (pieced (take l.piece-index l.pieces)) true;
  stays : g.S.Shelf.is_true l.shelf → g.S.Shelf.is_true l.fn.shelf;
}
