use Rattle.std.proofs.Common.{◌≡◌, ◌++◌, ◌∷◌, [], List, Bool, ap, append_assoc, arith, rules, subst, sym, ◌∙◌}
use Rattle.std.proofs.lemmas.Grind.{common_steps}
use Rattle.up_log.specs.declared.entry.Entry.{Entry}
use Rattle.up_store.specs.Lines.{AreDrawn, IsSuffix}
use Rattle.up_store.proofs.Removals.{more_drawn}
use Rattle.up_store.proofs.line.Line.draw.Goals as goal

pub invariant_of-self : goal.invariant_of-self
invariant_of-self g c =
    let inside = c.self.inside in
    let same : c.push_back.new.self.items ≡ inside.waiting.items = search rules in (
      subst (λ (xs : List Entry). IsSuffix xs inside.drawn) (sym same) c.self.invariant.0,
      subst (λ (xs : List Entry). AreDrawn inside.is_for_removals xs) (sym same) c.self.invariant.1,
    )

pub invariant_of-self-in_default : goal.invariant_of-self-in_default
invariant_of-self-in_default g c =
    let inside = c.self.inside in
    let same : c.pop_back.new.self.items ≡ inside.waiting.items = grind (arith, common_steps) in (
      subst (λ (xs : List Entry). IsSuffix xs inside.drawn) (sym same) c.self.invariant.0,
      subst (λ (xs : List Entry). AreDrawn inside.is_for_removals xs) (sym same) c.self.invariant.1,
    )

pub invariant_of-self-2 : goal.invariant_of-self-2
invariant_of-self-2 g c =
    let inside = c.self.inside in
    let entry = c.args.entry.now in
    let waits : c.push_back.new.self.items ≡ inside.waiting.items ++ entry ∷ [] = search rules in
    let drawn : c.draw.new.front ≡ inside.drawn ++ entry ∷ [] = search rules in
    let before = c.self.invariant.0.0 in
    let ends = c.self.invariant.0.1 in (
      (before, drawn ∙ (ap (λ l. l ++ entry ∷ []) ends ∙ (append_assoc before inside.waiting.items (entry ∷ []) ∙ ap (λ l. before ++ l) (sym waits)))),
      more_drawn inside.is_for_removals inside.waiting.items c.push_back.new.self.items entry waits c.self.invariant.1 (search rules),
    )
