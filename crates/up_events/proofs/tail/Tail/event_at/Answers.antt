use Rattle.std.proofs.Common.{◌≡◌, ◌<◌, ◌+◌, ◌-◌, ◌*◌, ◌/◌, Some, length, slice_get, subst, arith}
use Rattle.up_events.specs.Left.{Left}
use Rattle.up_events.proofs.BlockLemmas.{block_length}
use Rattle.up_events.proofs.TailLemmas.{block_at, event_read, view_length}
use Rattle.up_events.proofs.tail.Tail.event_at.Goals as goal

pub index-requires-2 : goal.index-requires-2
index-requires-2 c =
    let a = c.self.inside in
    let block = c.index.result.now in
    let v = view_length a.all.items a.len a.first a.base a.blocks.items c.args.self.now c.self.invariant c.self.view_is in
    let k = (c.args.place - a.base) / 1024 in
    let within : k < length a.blocks.items = omega (arith, v.0, v.1, c.requires.there, c.requires.within, c.self.invariant.given_back, c.self.invariant.room) in
    let was = block_at (c.args.place - a.base) a.blocks.items block within c.index.ensures in
    omega (arith, block.ok, v.0, v.1, c.requires.there, c.requires.within, c.self.invariant.given_back, c.self.invariant.counted, block_length 1024 a.all.items (a.base + k * 1024) block (c.self.invariant.each k block was))

pub returns : goal.returns
returns c =
    let a = c.self.inside in
    let block = c.index.result.now in
    let event = c.index-2.result.now in
    let v = view_length a.all.items a.len a.first a.base a.blocks.items c.args.self.now c.self.invariant c.self.view_is in
    let within : (c.args.place - a.base) / 1024 < length a.blocks.items = omega (arith, v.0, v.1, c.requires.there, c.requires.within, c.self.invariant.given_back, c.self.invariant.room) in
    let was = block_at (c.args.place - a.base) a.blocks.items block within c.index.ensures in
    subst (λ (l : Left). slice_get l.events (c.args.place - l.first) ≡ Some event) c.self.view_is
    (event_read a.all.items a.len a.first a.base c.args.place a.blocks.items block event c.self.invariant (omega (arith, v.0, c.requires.there)) (omega (arith, v.1, c.requires.within, c.self.invariant.counted)) was c.index-2.ensures)
