use Rattle.std.proofs.Common.{rules, ◌≡◌, [], ◌∷◌, ◌++◌, length, take, sym, ap, ◌∙◌, subst}
use Rattle.std.proofs.Math.Seq.{take-length}
use Rattle.up_queue.specs.declared.item.Item.TheVariants as item
use Rattle.up_queue.specs.Line.{items_of, IsOrderly}
use Rattle.up_queue.proofs.Orders.{orderly_ended}
use Rattle.up_tests.proofs.lanes.parts.items.Goals as goal

pub returns : goal.returns
returns c =
    let events = c.in_ok-events.events.items in
    let same : c.deref-event-items.result.now ≡ events = search rules in
    let index : c.loop-event.event-index ≡ length events = search rules in
    let whole : c.loop-event.items.items ≡ items_of events =
    c.loop-event.invariant ∙ ap (λ l. items_of (take c.loop-event.event-index l)) same ∙ ap (λ k. items_of (take k events)) index ∙ ap items_of (take-length events)
    in
    subst IsOrderly (sym (c.in_ok-push-2.ensures.items ∙ ap (λ l. l ++ item.End ∷ []) whole)) (orderly_ended events c.in_ok-events.ensures)
