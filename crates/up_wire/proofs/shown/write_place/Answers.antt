use Rattle.std.proofs.Common.{refl, sym, ◌∙◌, ◌+◌, ◌<◌, subst, length, drop, take-append-drop, take-add, arith}
use Rattle.up_wire.specs.Steps.{HasWritten}
use Rattle.up_wire.proofs.Showing.{block_of, block_shown, in_three, shows_as, shows_broken, shows_cut_at, shows_then, shows_then_at}
use Rattle.up_wire.proofs.shown.write_place.Goals as goal

pub returns-in_default-clause-shown : goal.returns-in_default-clause-shown
returns-in_default-clause-shown g c =
    shows_as (take-append-drop c.spans.from c.args.place.now.bytes)
    (shows_broken (g.W.Sink.device c.args.sink.now) (g.W.Sink.device c.spans.sink) (g.S.Shelf.has_failed c.args.shelf.now) (g.S.Shelf.has_failed c.spans.shelf) (g.S.Shelf.has_failed c.read.new.self) (drop c.spans.from c.args.place.now.bytes) c.in_default.ensures.failed c.read.ensures.stays c.spans.invariant.shown)

pub returns-then-not-write_all-clause-shown : goal.returns-then-not-write_all-clause-shown
returns-then-not-write_all-clause-shown g c =
    let all = c.args.place.now.bytes in
    let from = c.spans.from in
    let block = c.block-block.result.now in
    let it =
    block_of from all block _ c.spans.invariant.whole (omega (arith, c.len-len.ensures, c.spans-test.true)) c.block-block.ensures
    c.in-Ok.ensures.len c.in-Ok.ensures.bytes in
    shows_as (sym (in_three from (length block) all))
    (shows_cut_at (drop (from + length block) all) c.if-not-write_all.true
    (shows_then c.read.ensures.stays c.spans.invariant.shown
    (block_shown (g.S.Shelf.has_failed c.spans.shelf) (g.S.Shelf.has_failed c.read.new.self) all block from it.within it.same c.write_all.ensures)))

pub overflow_add-from : goal.overflow_add-from
overflow_add-from g c =
    let it =
    block_of c.spans.from c.args.place.now.bytes c.block-block.result.now _ c.spans.invariant.whole (omega (arith, c.len-len.ensures, c.spans-test.true)) c.block-block.ensures
    c.in-Ok.ensures.len c.in-Ok.ensures.bytes in
    omega (arith, it.within, c.len-len.ensures)

pub spans-smaller : goal.spans-smaller
spans-smaller g c =
    let inside : c.spans.from < length c.args.place.now.bytes = omega (arith, c.len-len.ensures, c.spans-test.true) in
    let it =
    block_of c.spans.from c.args.place.now.bytes c.block-block.result.now _ c.spans.invariant.whole inside c.block-block.ensures
    c.in-Ok.ensures.len c.in-Ok.ensures.bytes in
    omega (arith, it.size, inside)

pub spans-preserved : goal.spans-preserved
spans-preserved g c =
    let all = c.args.place.now.bytes in
    let from = c.spans.from in
    let block = c.block-block.result.now in
    let it =
    block_of from all block _ c.spans.invariant.whole (omega (arith, c.len-len.ensures, c.spans-test.true)) c.block-block.ensures
    c.in-Ok.ensures.len c.in-Ok.ensures.bytes in
    record {
      shown =
          shows_as (sym (take-add from (length block) all))
          (shows_then_at refl c.read.ensures.stays c.spans.invariant.shown
          (block_shown (g.S.Shelf.has_failed c.spans.shelf) (g.S.Shelf.has_failed c.read.new.self) all block from it.within it.same
          (subst (HasWritten _ _ _ _ block) c.if-not-write_all.false c.write_all.ensures)));
      stays = λ yes. c.spans.invariant.stays (c.read.ensures.stays yes);
      within = it.within;
      whole = λ less. omega (arith, less, c.spans.invariant.whole (omega (arith, c.len-len.ensures, c.spans-test.true)), it.size);
    }
