use Rattle.std.proofs.Common.{◌∙◌, ◌++◌, ◌∷◌, [], ap, arith}
use Rattle.up_events.proofs.AscendingLemmas.{one_block_more}
use Rattle.up_events.proofs.sorted_ids.make_place.Goals as goal

pub returns-in_ok-block-clause-blocks : goal.returns-in_ok-block-clause-blocks
returns-in_ok-block-clause-blocks c =
    (one_block_more c.args.blocks.now.items c.push_reserved.new.self.items c.in_ok-block.block c.requires.blocks (omega (arith, c.requires.counted, c.requires.room)) c.in_ok-block.ensures
    (c.push_reserved.ensures.items ∙ ap (λ l. l ++ c.in_ok-block.block ∷ []) c.make_room_by.ensures.items)).0
