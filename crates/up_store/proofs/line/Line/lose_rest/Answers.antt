use Rattle.std.proofs.Common.{◌++◌, ap, sym, ◌∙◌}
use Rattle.std.proofs.lemmas.List.{append-nil}
use Rattle.up_store.proofs.Removals.{none_drawn}
use Rattle.up_store.proofs.line.Line.lose_rest.Goals as goal

pub invariant_of-self : goal.invariant_of-self
invariant_of-self g c =
    let inside = c.self.inside in
    let drawn = inside.drawn in (
      (drawn, sym (ap (λ l. drawn ++ l) c.clear.ensures.items ∙ append-nil drawn)),
      none_drawn inside.is_for_removals c.clear.new.self.items c.clear.ensures.items,
    )
