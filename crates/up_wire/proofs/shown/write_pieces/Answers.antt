use Rattle.std.proofs.Common.{refl}
use Rattle.up_wire.proofs.Showing.{none_shown, each_shown_whole, each_shown_cut, each_shown_next, shows_as}
use Rattle.up_wire.proofs.shown.write_pieces.Goals as goal

pub returns-then-not-write_piece-clause-shown : goal.returns-then-not-write_piece-clause-shown
returns-then-not-write_piece-clause-shown g c =
    each_shown_cut (λ piece. piece) c.args.pieces.now c.loop-piece.piece-index c.piece-item.result c.loop-piece-test.true c.write_piece.ensures.stays c.loop-piece.invariant.shown
    (shows_as c.piece-item.is c.write_piece.ensures.shown) c.if-not-write_piece.true

pub loop-piece-preserved : goal.loop-piece-preserved
loop-piece-preserved g c = record {
  shown =
      each_shown_next (λ piece. piece) c.args.pieces.now c.loop-piece.piece-index c.piece-item.result c.loop-piece-test.true c.write_piece.ensures.stays c.loop-piece.invariant.shown
      (shows_as c.piece-item.is c.write_piece.ensures.shown) c.if-not-write_piece.false;
  stays = λ yes. c.loop-piece.invariant.stays (c.write_piece.ensures.stays yes);
}

pub loop-piece-init : goal.loop-piece-init
loop-piece-init g c = record { shown = none_shown _ _ c.requires.patient; stays = λ yes. yes }

pub write_piece-requires : goal.write_piece-requires
write_piece-requires g c = record { patient = c.loop-piece.invariant.shown.written.tries.patient refl }

pub returns-clause-shown : goal.returns-clause-shown
returns-clause-shown g c = each_shown_whole (λ piece. piece) c.args.pieces.now c.loop-piece.piece-index c.loop-piece-test.false c.loop-piece.invariant.shown
