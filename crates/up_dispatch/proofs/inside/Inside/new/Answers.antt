use Rattle.std.proofs.Common.{◌≡◌, ◌∙◌, length, get_or, ap, sym, arith}
use Rattle.std.proofs.lemmas.Grind.{common_steps}
use Rattle.std.proofs.lemmas.List.{length-map}
use Rattle.up_queue.specs.EndViews.{no_queue}
use Rattle.up_dispatch.specs.Parts.{Parts}
use Rattle.up_dispatch.specs.declared.queue_cursor.QueueCursor.{QueueCursor}
use Rattle.up_dispatch.proofs.inside.Inside.new.Goals as goal

pub invariant_of-inside : goal.invariant_of-inside
invariant_of-inside g c = grind (arith, common_steps)

pub returns-clause-ends : goal.returns-clause-ends
returns-clause-ends g c =
    let new = c.parts.invariant.1 in
    let count = length-map c.parts.inside.cursors.items (λ (f : QueueCursor). f.put_end.queue) in (
      omega (arith, new.same, count, ap (λ (p : Parts). length p.queues) c.parts.view_is),
      λ k e within. (
        (new.taken k e within).0,
        (new.taken k e within).1 ∙ ap (λ (p : Parts). get_or p.queues k no_queue) c.parts.view_is ∙ sym (c.requires.named.2 k),
      ),
    )
