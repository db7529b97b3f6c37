use Rattle.std.proofs.Common.{◌≡◌, ◌+◌, ◌++◌, ◌∷◌, [], take, Some, slice_get, ap, subst, sym, ◌∙◌}
use Rattle.up_history.proofs.Following.{take-get}
use Rattle.up_history.proofs.trail.Trail.up_to.Goals as goal

pub returns : goal.returns
returns g c entry is =
    let receipt = c.args.receipt.now in
    let front = c.front-front.result in
    let place = c.front-front.ensures.place in
    let there : slice_get front receipt.number ≡ Some entry = ap (λ p. p.entry) place ∙ is in
    subst (λ n. take (n + 1) front ≡ receipt.before ++ entry ∷ []) (sym c.number.ensures) (take-get front receipt.number entry there ∙ ap (λ p. p.before ++ entry ∷ []) place)
