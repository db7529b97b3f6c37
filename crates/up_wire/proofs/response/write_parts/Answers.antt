use Rattle.up_wire.proofs.Showing.{response_cut, response_bare, response_whole}
use Rattle.up_wire.proofs.response.write_parts.Goals as goal

pub returns-then-not-write_head-clause-shown : goal.returns-then-not-write_head-clause-shown
returns-then-not-write_head-clause-shown g c = response_cut c.args.response.now c.args.bare c.args.close _ _ c.if-not-write_head.true c.write_head.ensures

pub returns-then-bare-clause-shown : goal.returns-then-bare-clause-shown
returns-then-bare-clause-shown g c = response_bare c.args.response.now c.args.bare c.args.close _ _ c.if-bare.true c.if-not-write_head.false c.write_head.ensures

pub returns-clause-shown : goal.returns-clause-shown
returns-clause-shown g c = response_whole (g.W.Sink.device c.write_body.new.sink) c.args.response.now c.args.bare c.args.close (g.S.Shelf.has_failed c.args.shelf.now) (g.S.Shelf.has_failed c.write_body.new.shelf) c.if-bare.false c.if-not-write_head.false c.write_head.ensures c.write_body.ensures.shown
