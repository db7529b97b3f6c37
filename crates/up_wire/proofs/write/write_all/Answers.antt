use Rattle.std.proofs.Common.{◌≡◌, ◌++◌, take, drop, sym, ap, ◌∙◌, append_assoc, arith}
use Rattle.std.proofs.lemmas.Grind.{common_steps}
use Rattle.std.proofs.lemmas.List.{take-append-drop, take_rest}
use Rattle.std.proofs.KnownBytes.{Appends-trans}
use Rattle.up_wire.proofs.write.write_all.Goals as goal

pub pieces-preserved-in-Took : goal.pieces-preserved-in-Took
pieces-preserved-in-Took g c =
    let front = c.pieces.invariant.0 in
    let count = c.in-Took.count in
    let rest = c.pieces.rest.now in
    let split : c.args.bytes.now ≡ (front.0 ++ take count rest) ++ drop count rest =
    front.1 ∙ ap (λ r. front.0 ++ r) (sym (take-append-drop count rest)) ∙ sym (append_assoc front.0 (take count rest) (drop count rest)) in
    ((front.0 ++ take count rest, simp take_rest split, Appends-trans _ _ _ _ _ front.2 c.in-Took.ensures.bytes), c.pieces.invariant.1, record { rose = omega (arith, c.pieces.invariant.2.rose); counted = omega (arith, c.in-Took.ensures.interrupted, c.pieces.invariant.2.counted) })

pub returns : goal.returns
returns g c = grind (arith, common_steps)
