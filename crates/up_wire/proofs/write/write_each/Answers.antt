use Rattle.std.proofs.Common.{refl}
use Rattle.up_wire.proofs.Writing.{none_written, each_whole, each_cut, each_next}
use Rattle.up_wire.proofs.write.write_each.Goals as goal

pub returns-then-not-write_all : goal.returns-then-not-write_all
returns-then-not-write_all g c =
    each_cut (λ piece. piece.now) c.args.pieces.now c.loop-piece.piece-index _ c.loop-piece-test.true c.loop-piece.invariant c.write_all.ensures c.if-not-write_all.true

pub loop-piece-preserved : goal.loop-piece-preserved
loop-piece-preserved g c =
    each_next (λ piece. piece.now) c.args.pieces.now c.loop-piece.piece-index _ c.loop-piece-test.true c.loop-piece.invariant c.write_all.ensures c.if-not-write_all.false

pub loop-piece-init : goal.loop-piece-init
loop-piece-init g c = none_written _ _ c.requires

pub write_all-requires : goal.write_all-requires
write_all-requires g c = c.loop-piece.invariant.tries.patient refl

pub returns : goal.returns
returns g c = each_whole (λ piece. piece.now) c.args.pieces.now c.loop-piece.piece-index c.loop-piece-test.false c.loop-piece.invariant
