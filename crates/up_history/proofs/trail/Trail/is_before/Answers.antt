use Rattle.std.proofs.Common.{◌≡◌, ◌≤◌, List, length, take, ap, subst, sym, ◌∙◌, arith}
use mathlib.Core.List.{IsPrefix}
use Rattle.up_history.proofs.Following.{first-length, take_begins}
use Rattle.up_history.proofs.trail.Trail.is_before.Goals as goal

pub returns-clause-before : goal.returns-clause-before
returns-clause-before g c _ =
    let inside = c.self.inside in
    let receipt = c.args.receipt.now in
    let front = c.front.result in
    let count : length c.args.self.now ≡ inside.count = ap length (sym c.self.view_is) ∙ first-length inside.front inside.count c.self.invariant in
    let fewer : inside.count ≤ receipt.number = omega (arith, count, c.len.ensures, c.number.ensures, c.if-len-number.false) in
    let own : take inside.count front ≡ c.args.self.now = sym c.agree-2.ensures ∙ c.self.view_is in
    subst (λ (xs : List g.row.E.Denot). IsPrefix xs receipt.before) own
    (subst (λ (ys : List g.row.E.Denot). IsPrefix (take inside.count front) ys) (ap (λ p. p.before) c.front.ensures.place) (take_begins front inside.count receipt.number fewer))
