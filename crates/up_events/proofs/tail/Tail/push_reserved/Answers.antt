use Rattle.std.proofs.Common.{◌+◌, ◌-◌, ◌*◌, ◌/◌, arith}
use Rattle.up_events.proofs.BlockLemmas.{block_length}
use Rattle.up_events.proofs.TailLemmas.{block_at, left_event, view_room}
use Rattle.up_events.proofs.tail.Tail.push_reserved.Goals as goal

pub push_reserved-requires : goal.push_reserved-requires
push_reserved-requires c =
    let a = c.self.inside in
    let block = c.index_mut.result.now in
    let v = view_room a.all.items a.len a.first a.base a.blocks.items c.args.self.now c.self.invariant c.self.view_is c.requires in
    let k = (a.len - a.base) / 1024 in
    let is = c.self.invariant.each k block (block_at (a.len - a.base) a.blocks.items block v.0 c.index_mut.ensures.value) in
    omega (arith, block.ok, is.room, c.self.invariant.counted, block_length 1024 a.all.items (a.base + k * 1024) block is)

pub invariant_of-self : goal.invariant_of-self
invariant_of-self c =
    let a = c.self.inside in
    let block = c.index_mut.result.now in
    let v = view_room a.all.items a.len a.first a.base a.blocks.items c.args.self.now c.self.invariant c.self.view_is c.requires in
    let was = block_at (a.len - a.base) a.blocks.items block v.0 c.index_mut.ensures.value in
    rw c.push.ensures (left_event a.all.items c.args.event a.len a.first a.base a.blocks.items block c.push_reserved.new.self c.self.invariant was v.0 v.1 c.push_reserved.ensures.items c.push_reserved.ensures.capacity)
