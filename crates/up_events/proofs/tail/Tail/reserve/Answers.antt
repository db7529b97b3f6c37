use Rattle.std.proofs.Common.{◌∙◌, ap, ◌++◌, ◌∷◌, []}
use Rattle.up_events.proofs.TailLemmas.{left_block}
use Rattle.up_events.proofs.tail.Tail.reserve.Goals as goal

pub invariant_of-self-then-last-len : goal.invariant_of-self-then-last-len
invariant_of-self-then-last-len c =
    let a = c.self.inside in
    left_block a.all.items a.len a.first a.base a.blocks.items c.push_reserved.new.self.items c.in_ok-block.block c.self.invariant c.in_ok-block.ensures
    (c.push_reserved.ensures.items ∙ ap (λ l. l ++ c.in_ok-block.block ∷ []) c.make_room_by.ensures.items)
