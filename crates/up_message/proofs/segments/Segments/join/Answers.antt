use Rattle.std.proofs.Common.{◌≡◌, ◌+◌, length, length-append, take, sym, ap, ◌∙◌, arith}
use Rattle.std.proofs.lemmas.List.Folds.{length-flat_map-take}
use Rattle.up_message.specs.Joins.{pieced}
use Rattle.up_message.proofs.segments.Segments.join.Goals as goal

pub push-requires : goal.push-requires
push-requires c =
    let xs = c.runs.result.0.now in
    let one = length-flat_map-take (λ piece. piece) xs c.loop-run.run-index c.run-item.result c.loop-run-test.true in
    let here = ap length c.loop-run.invariant ∙ length-append c.args.self.now (pieced (take c.loop-run.run-index xs)) in
    let all : length (pieced xs) + length c.runs.result.1.now ≡ length c.args.other.now = sym (length-append (pieced xs) c.runs.result.1.now) ∙ ap length c.runs.ensures in
    omega (arith, one, here, all, ap length c.in_ok-share.ensures, ap length c.run-item.is, c.requires)
