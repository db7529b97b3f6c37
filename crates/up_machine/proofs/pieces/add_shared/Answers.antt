use Rattle.std.proofs.Common.{length, take, ap, arith, length-append}
use Rattle.std.proofs.lemmas.List.Folds.{length-flat_map-take}
use Rattle.up_message.specs.Joins.{pieced}
use Rattle.up_machine.proofs.pieces.add_shared.Goals as goal

pub push-requires : goal.push-requires
push-requires c =
    let pieces = c.args.pieces.now in
    let index = c.loop-piece.piece-index in
    let one = length-flat_map-take (λ piece. piece) pieces index c.piece-item.result c.loop-piece-test.true in
    let more = length-append c.args.segments.now (pieced (take index pieces)) in
    omega (arith, one, more, ap length c.loop-piece.invariant, ap length c.in_ok-share.ensures, ap length c.piece-item.is, ap length c.one.ensures, c.requires)
