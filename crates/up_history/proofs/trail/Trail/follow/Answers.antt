use Rattle.std.proofs.Common.{◌≡◌, ◌++◌, ◌∷◌, [], ℕ, length, Some, slice_get, ap, subst, sym, ◌∙◌}
use Rattle.up_history.proofs.Following.{first-length, take-get}
use Rattle.up_history.proofs.trail.Trail.follow.Goals as goal

pub returns-clause-follows : goal.returns-clause-follows
returns-clause-follows g c entry is =
    let inside = c.self.inside in
    let receipt = c.args.receipt.now in
    let front = c.front-front.result in
    let number : receipt.number ≡ inside.count = c.requires.next ∙ (ap length (sym c.self.view_is) ∙ first-length inside.front inside.count c.self.invariant) in
    let there = subst (λ (n : ℕ). slice_get front n ≡ Some entry) number (ap (λ p. p.entry) c.front-front.ensures.place ∙ is) in
    take-get front inside.count entry there ∙ ap (λ l. l ++ entry ∷ []) (sym c.agree.ensures ∙ c.self.view_is)
