use Rattle.std.proofs.Common.{◌≡◌, length, refl, slice_set, append-nil, ◌∙◌, arith}
use Rattle.std.proofs.Math.ListN.{length-set}
use Rattle.std.specs.List.{insert}
use Rattle.up_events.specs.Ascending.{ids_in}
use Rattle.up_events.proofs.AscendingLemmas.{moved_all, moved_first, moved_last, moved_on, next_block}
use Rattle.up_events.proofs.sorted_ids.put_at.Goals as goal

pub loop-k-init : goal.loop-k-init
loop-k-init c = (refl, moved_first (ids_in c.args.blocks.now.items) c.args.place c.args.id c.args.blocks.now.items c.requires.blocks c.requires.within)

pub put_into-requires-clause-within : goal.put_into-requires-clause-within
put_into-requires-clause-within c =
    let t = c.loop-k in
    (next_block (ids_in c.args.blocks.now.items) c.args.place c.args.id t.k t.at t.moved t.blocks.items c.index_mut.result.now t.invariant.1
    (omega (arith, t.invariant.0, c.loop-k-test.true, c.len-k-end.ensures)) c.index_mut.ensures.value).1

pub put_into-requires-clause-len : goal.put_into-requires-clause-len
put_into-requires-clause-len c =
    let t = c.loop-k in
    (next_block (ids_in c.args.blocks.now.items) c.args.place c.args.id t.k t.at t.moved t.blocks.items c.index_mut.result.now t.invariant.1
    (omega (arith, t.invariant.0, c.loop-k-test.true, c.len-k-end.ensures)) c.index_mut.ensures.value).2

pub put_into-requires-clause-room : goal.put_into-requires-clause-room
put_into-requires-clause-room c =
    let t = c.loop-k in
    (next_block (ids_in c.args.blocks.now.items) c.args.place c.args.id t.k t.at t.moved t.blocks.items c.index_mut.result.now t.invariant.1
    (omega (arith, t.invariant.0, c.loop-k-test.true, c.len-k-end.ensures)) c.index_mut.ensures.value).3

pub returns-in_default-clause-blocks : goal.returns-in_default-clause-blocks
returns-in_default-clause-blocks c =
    let t = c.loop-k in
    let ids = ids_in c.args.blocks.now.items in
    let block = c.index_mut.result.now in
    let new = c.put_into.new.block in
    let next = next_block ids c.args.place c.args.id t.k t.at t.moved t.blocks.items block t.invariant.1
    (omega (arith, t.invariant.0, c.loop-k-test.true, c.len-k-end.ensures)) c.index_mut.ensures.value in
    let gives : insert block.items t.at t.moved ≡ new.items = c.in_default.ensures.items ∙ append-nil new.items in
    let blocks = slice_set t.blocks.items t.k new in
    let rows : length blocks ≡ length c.args.blocks.now.items = length-set t.blocks.items t.k new ∙ t.invariant.0 in
    (moved_all ids c.args.place c.args.id blocks c.requires.within (omega (arith, rows, c.requires.room))
    (moved_last ids c.args.place c.args.id t.k t.at t.moved t.blocks.items block new c.requires.within t.invariant.1 next.0 gives c.in_default.ensures.len c.put_into.ensures.room)).0

pub returns-in_default-clause-ids : goal.returns-in_default-clause-ids
returns-in_default-clause-ids c =
    let t = c.loop-k in
    let ids = ids_in c.args.blocks.now.items in
    let block = c.index_mut.result.now in
    let new = c.put_into.new.block in
    let next = next_block ids c.args.place c.args.id t.k t.at t.moved t.blocks.items block t.invariant.1
    (omega (arith, t.invariant.0, c.loop-k-test.true, c.len-k-end.ensures)) c.index_mut.ensures.value in
    let gives : insert block.items t.at t.moved ≡ new.items = c.in_default.ensures.items ∙ append-nil new.items in
    let blocks = slice_set t.blocks.items t.k new in
    let rows : length blocks ≡ length c.args.blocks.now.items = length-set t.blocks.items t.k new ∙ t.invariant.0 in
    (moved_all ids c.args.place c.args.id blocks c.requires.within (omega (arith, rows, c.requires.room))
    (moved_last ids c.args.place c.args.id t.k t.at t.moved t.blocks.items block new c.requires.within t.invariant.1 next.0 gives c.in_default.ensures.len c.put_into.ensures.room)).1

pub loop-k-preserved : goal.loop-k-preserved
loop-k-preserved c =
    let t = c.loop-k in
    let ids = ids_in c.args.blocks.now.items in
    let block = c.index_mut.result.now in
    let new = c.put_into.new.block in
    let next = next_block ids c.args.place c.args.id t.k t.at t.moved t.blocks.items block t.invariant.1
    (omega (arith, t.invariant.0, c.loop-k-test.true, c.len-k-end.ensures)) c.index_mut.ensures.value in (
      length-set t.blocks.items t.k new ∙ t.invariant.0,
      moved_on ids c.args.place c.args.id t.k t.at t.moved c.in-Some.last t.blocks.items block new t.invariant.1 next.0 c.in-Some.ensures.items c.in-Some.ensures.len c.put_into.ensures.room,
    )
