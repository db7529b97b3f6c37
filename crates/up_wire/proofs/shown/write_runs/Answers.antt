use Rattle.std.proofs.Common.{refl, ◌∙◌}
use Rattle.up_wire.proofs.Showing.{none_shown, each_shown_whole, each_shown_cut, each_shown_next, shows_as}
use Rattle.up_wire.proofs.shown.write_runs.Goals as goal

pub returns-then-not-write_pieces-clause-shown : goal.returns-then-not-write_pieces-clause-shown
returns-then-not-write_pieces-clause-shown g c =
    each_shown_cut (λ run. run) c.args.runs.now c.loop-run.run-index c.run-item.result c.loop-run-test.true c.write_pieces.ensures.stays c.loop-run.invariant.shown
    (shows_as (c.pieces.ensures ∙ c.run-item.is) c.write_pieces.ensures.shown) c.if-not-write_pieces.true

pub loop-run-preserved : goal.loop-run-preserved
loop-run-preserved g c = record {
  shown =
      each_shown_next (λ run. run) c.args.runs.now c.loop-run.run-index c.run-item.result c.loop-run-test.true c.write_pieces.ensures.stays c.loop-run.invariant.shown
      (shows_as (c.pieces.ensures ∙ c.run-item.is) c.write_pieces.ensures.shown) c.if-not-write_pieces.false;
  stays = λ yes. c.loop-run.invariant.stays (c.write_pieces.ensures.stays yes);
}

pub loop-run-init : goal.loop-run-init
loop-run-init g c = record { shown = none_shown _ _ c.requires.patient; stays = λ yes. yes }

pub write_pieces-requires : goal.write_pieces-requires
write_pieces-requires g c = record { patient = c.loop-run.invariant.shown.written.tries.patient refl }

pub returns-clause-shown : goal.returns-clause-shown
returns-clause-shown g c = each_shown_whole (λ run. run) c.args.runs.now c.loop-run.run-index c.loop-run-test.false c.loop-run.invariant.shown
