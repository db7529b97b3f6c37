use Rattle.std.proofs.Common.{◌++◌, append_assoc, ap, sym, ◌∙◌}
use Rattle.up_tie.specs.Ties.{Changes}
use Rattle.up_store.specs.Lines.{Progress}
use Rattle.up_store.proofs.Removals.{rest_drawn, taken_drawn}
use Rattle.up_store.proofs.line.Line.begin_batch.Goals as goal

pub invariant_of-self : goal.invariant_of-self
invariant_of-self g c =
    let inside = c.self.inside in
    let waiting = inside.waiting.items in
    let before = c.self.invariant.0.0 in
    let filled = c.fill.new in
    let moved = sym (c.fill.ensures ∙ ap (λ l. l ++ waiting) c.clear.ensures.items) in (
      (
        before ++ filled.batch.items,
        c.self.invariant.0.1 ∙ (ap (λ l. before ++ l) moved ∙ sym (append_assoc before filled.batch.items filled.waiting.items)),
      ),
      rest_drawn inside.is_for_removals waiting filled.batch.items filled.waiting.items moved c.self.invariant.1,
    )

pub returns-clause-removals : goal.returns-clause-removals
returns-clause-removals g c =
    let inside = c.self.inside in
    let waiting = inside.waiting.items in
    let filled = c.fill.new in
    let moved = sym (c.fill.ensures ∙ ap (λ l. l ++ waiting) c.clear.ensures.items) in
    let flag = ap (λ (l : Progress). l.is_for_removals) c.self.view_is in
    let taken = ap (λ (b : Changes). b.entries) c.new-2.ensures in
    taken_drawn inside.is_for_removals c.args.self.now.is_for_removals waiting filled.batch.items filled.waiting.items c.new-2.result.entries flag moved taken c.self.invariant.1
