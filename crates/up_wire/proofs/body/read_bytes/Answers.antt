use Rattle.std.proofs.Common.{◌≡◌, [], ◌++◌, length, refl, ap, sym, ◌∙◌, append-nil, inl, inr, arith}
use Rattle.std.specs.Vec.{with_items}
use Rattle.std.proofs.lemmas.List.{take_all, with_items_is}
use Rattle.up_wire.specs.Message.{open_yet, ended, failed}
use Rattle.up_wire.proofs.Bodies.{batch_behind}
use Rattle.up_wire.proofs.Counting.{took_none, took_on}
use Rattle.up_wire.proofs.body.read_bytes.Goals as goal

pub batches-init : goal.batches-init
batches-init g c =
    let items = c.args.body.now.items in
    record {
      run = ([], took_none _ _ c.requires.patient, take_all c.len-filled.result items (omega arith) ∙ sym (append-nil items));
      filled = omega arith;
      within = omega (arith, c.requires.within);
      bounded = omega (arith, c.requires.bounded);
    }

pub batches-preserved : goal.batches-preserved
batches-preserved g c =
    let before = c.batches.invariant.run in
    let more = c.in-Came.ensures in
    let whole = c.fill.new.whole in
    let body = with_items c.make_ready.new.body whole in
    let is : body.items ≡ whole = with_items_is c.make_ready.new.body whole (omega arith) in
    let ready = c.make_ready.ensures.ready c.if-not-make_ready.false in
    record {
      run = (
        before.0 ++ more.0,
        took_on before.1 more.1,
        batch_behind _ c.batches.filled body.items whole _ _ _ before.0 more.0 is (omega (arith, more.3.0)) more.2 c.as_mut_slice.ensures.value (c.make_ready.ensures.kept ∙ before.2),
      );
      filled = omega (arith, ap length is, more.3);
      within = omega (arith, ap length is);
      bounded = omega (arith, ready.1);
    }

pub returns-then-not-make_ready-clause-answer : goal.returns-then-not-make_ready-clause-answer
returns-then-not-make_ready-clause-answer g c =
    let before = c.batches.invariant.run in
    let none = c.make_ready.ensures.none c.if-not-make_ready.true in
    let items = c.make_ready.new.body.items in
    record {
      input = before.0;
      ending = open_yet;
      took = before.1;
      is = (sym (take_all c.batches.filled items (omega (arith, none))) ∙ c.make_ready.ensures.kept ∙ before.2, refl);
    }

pub returns-then-not-make_ready-clause-bounded : goal.returns-then-not-make_ready-clause-bounded
returns-then-not-make_ready-clause-bounded g c = inl refl

pub returns-in-Ended-clause-answer : goal.returns-in-Ended-clause-answer
returns-in-Ended-clause-answer g c =
    let before = c.batches.invariant.run in
    let more = c.in-Ended.ensures in
    let whole = c.fill.new.whole in
    let is = with_items_is c.make_ready.new.body whole (omega arith) in
    let items = c.truncate.ensures.items ∙ batch_behind c.batches.filled c.batches.filled _ whole _ _ _ before.0 more.0 is (omega (arith, ap length more.3)) more.2 c.as_mut_slice.ensures.value (c.make_ready.ensures.kept ∙ before.2) in
    record {
      input = before.0 ++ more.0;
      ending = ended;
      took = took_on before.1 more.1;
      is = (items, (omega (arith, c.truncate.ensures.len), refl));
    }

pub returns-in-Ended-clause-bounded : goal.returns-in-Ended-clause-bounded
returns-in-Ended-clause-bounded g c =
    let ready = c.make_ready.ensures.ready c.if-not-make_ready.false in
    inr (omega (arith, ready.1, c.truncate.ensures.len))

pub returns-in-Failed-clause-answer : goal.returns-in-Failed-clause-answer
returns-in-Failed-clause-answer g c =
    let before = c.batches.invariant.run in
    let more = c.in-Failed.ensures in
    let whole = c.fill.new.whole in
    let is = with_items_is c.make_ready.new.body whole (omega arith) in
    let items = c.truncate-in-Failed.ensures.items ∙ batch_behind c.batches.filled c.batches.filled _ whole _ _ _ before.0 more.0 is (omega (arith, ap length more.3)) more.2 c.as_mut_slice.ensures.value (c.make_ready.ensures.kept ∙ before.2) in
    record {
      input = before.0 ++ more.0;
      ending = failed;
      took = took_on before.1 more.1;
      is = (items, (omega (arith, c.truncate-in-Failed.ensures.len), refl));
    }

pub returns-in-Failed-clause-bounded : goal.returns-in-Failed-clause-bounded
returns-in-Failed-clause-bounded g c =
    let ready = c.make_ready.ensures.ready c.if-not-make_ready.false in
    inr (omega (arith, ready.1, c.truncate-in-Failed.ensures.len))

pub returns-clause-answer : goal.returns-clause-answer
returns-clause-answer g c =
    let before = c.batches.invariant.run in
    record {
      input = before.0;
      ending = open_yet;
      took = before.1;
      is = (sym (take_all c.batches.filled c.batches.body.items (omega arith)) ∙ before.2, (omega arith, refl));
    }

pub returns-clause-bounded : goal.returns-clause-bounded
returns-clause-bounded g c = inr (omega (arith, c.batches.invariant.bounded))
