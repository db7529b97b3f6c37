use Rattle.std.proofs.Common.{length, rules, ap, sym, ◌∙◌, ◌+◌, ◌<◌, ◌++◌, ◌∷◌, [], take, refl, arith}
use Rattle.std.proofs.lemmas.List.{length-append, length-take}
use Rattle.up_wire.specs.Message.{ended, failed}
use Rattle.up_wire.proofs.Bodies.{batch_behind}
use Rattle.up_wire.proofs.Counting.{took_none, took_on}
use Rattle.up_wire.proofs.body.read_large_front.Goals as goal

pub batches-preserved : goal.batches-preserved
batches-preserved g c =
    let before = c.batches.invariant.run in
    let more = c.in-Came.ensures in
    record {
      run = (
        before.0 ++ more.0,
        took_on before.1 more.1,
        ap (λ n. take (c.batches.filled + n) c.fill.new.whole) (sym more.3.0) ∙ more.2 ∙ ap (λ t. t ++ more.0) before.2,
      );
      some = search rules;
      filled = search rules;
      places = search rules;
      empty = search rules;
      bounded = search rules;
    }

pub returns-in-Ended : goal.returns-in-Ended
returns-in-Ended g c =
    let before = c.batches.invariant.run in
    let more = c.in-Ended.ensures in
    let items = c.in_ok-put_front-in-Ended.ensures.items ∙ batch_behind c.batches.filled c.batches.filled _ c.fill.new.whole _ _ (c.args.first ∷ []) before.0 more.0 refl (omega (arith, ap length more.3)) more.2 refl before.2 in
    let short : length (c.args.first ∷ (before.0 ++ more.0)) < c.args.size = omega (arith, ap length before.2, length-take c.batches.filled c.batches.front, ap length more.3, length-append before.0 more.0) in
    record {
      input = before.0 ++ more.0;
      ending = ended;
      took = took_on before.1 more.1;
      is = (record { items = items; within = omega (arith, short); bounded = c.in_ok-put_front-in-Ended.ensures.bounded }, short, refl);
    }

pub returns-in-Failed : goal.returns-in-Failed
returns-in-Failed g c =
    let before = c.batches.invariant.run in
    let more = c.in-Failed.ensures in
    let items = c.in_ok-put_front-in-Failed.ensures.items ∙ batch_behind c.batches.filled c.batches.filled _ c.fill.new.whole _ _ (c.args.first ∷ []) before.0 more.0 refl (omega (arith, ap length more.3)) more.2 refl before.2 in
    let short : length (c.args.first ∷ (before.0 ++ more.0)) < c.args.size = omega (arith, ap length before.2, length-take c.batches.filled c.batches.front, ap length more.3, length-append before.0 more.0) in
    record {
      input = before.0 ++ more.0;
      ending = failed;
      took = took_on before.1 more.1;
      is = (record { items = items; within = omega (arith, short); bounded = c.in_ok-put_front-in-Failed.ensures.bounded }, short, refl);
    }

pub batches-init : goal.batches-init
batches-init g c = record {
  run = ([], took_none _ _ c.requires.patient, refl);
  some = omega arith;
  filled = omega arith;
  places = refl;
  empty = c.requires.empty;
  bounded = c.requires.bounded;
}
