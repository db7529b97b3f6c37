use Rattle.up_wire.specs.Response.{joined_slices}
use Rattle.up_wire.proofs.Writing.{writes_at, writes_front}
use Rattle.up_wire.proofs.text.write_pieces.Goals as goal

pub returns-then-not-write_each-clause-written : goal.returns-then-not-write_each-clause-written
returns-then-not-write_each-clause-written g c =
    writes_front _ _ (joined_slices c.args.pieces.now) c.write_each.result c.write_each.ensures.written

pub returns-clause-written : goal.returns-clause-written
returns-clause-written g c =
    writes_at _ _ (joined_slices c.args.pieces.now) c.write_each.result c.if-not-write_each.false c.write_each.ensures.written
