use Rattle.std.proofs.Common.{◌≡◌, ◌*◌, ◌/◌, ◌<◌, length, refl, arith, subst, slice_get, Some}
use Rattle.std.proofs.lemmas.Option.{slice_get_read}
use Rattle.up_events.specs.Ascending.{ids_in}
use Rattle.up_events.proofs.AscendingLemmas.{id_read}
use Rattle.up_events.proofs.BlockLemmas.{block_length}
use Rattle.up_events.proofs.sorted_ids.SortedIds.at.Goals as goal

pub index-requires-2 : goal.index-requires-2
index-requires-2 c =
    let a = c.self.inside in
    let block = c.index.result.now in
    let within : c.args.place < length (ids_in a.blocks.items) = rw c.self.view_is c.requires in
    let was = slice_get_read a.blocks.items (length a.blocks.items) (c.args.place / 32) block refl (omega (arith, c.self.invariant.counted, c.self.invariant.room)) c.index.ensures in
    omega (arith, block_length 32 (ids_in a.blocks.items) (c.args.place / 32 * 32) block (c.self.invariant.are_blocks (c.args.place / 32) block was))

pub returns : goal.returns
returns c =
    let a = c.self.inside in
    let block = c.index.result.now in
    let id = c.index-2.result.now in
    let within : c.args.place < length (ids_in a.blocks.items) = rw c.self.view_is c.requires in
    let was = slice_get_read a.blocks.items (length a.blocks.items) (c.args.place / 32) block refl (omega (arith, c.self.invariant.counted, c.self.invariant.room)) c.index.ensures in
    subst (λ ids. slice_get ids c.args.place ≡ Some id) c.self.view_is (id_read (ids_in a.blocks.items) c.args.place id a.blocks.items block c.self.invariant.are_blocks within was c.index-2.ensures)
