use Rattle.std.proofs.Common.{◌∙◌, refl, arith}
use Rattle.up_dispatch.proofs.TurnLemmas.{no_passes, passes_few, passes_later, passes_more}
use Rattle.up_dispatch.specs.Exchanges.{facts_of, stand_in}
use Rattle.up_dispatch.proofs.conversation.converse.Goals as goal

pub loop-turn-init : goal.loop-turn-init
loop-turn-init g c = record { lender = refl; borrows = (refl, refl, refl); stays = λ all. all; passes = no_passes _ _ c.args.max_size _ }

pub returns-in-Some-clause-turns : goal.returns-in-Some-clause-turns
returns-in-Some-clause-turns g c = record {
  turns = c.loop-turn.turn;
  last = stand_in g.R.Source.device g.W.Sink.device (g.K.Keeper.state c.loop-turn.keeper) c.loop-turn.exchange;
  passes = passes_later (facts_of g.S.Shelf.is_true g.S.Shelf.has_failed c.loop-turn.bodies.shelf) _ _ c.args.max_size c.loop-turn.turn _ _ c.take_turn.ensures.stays c.loop-turn.invariant.passes;
  ends = c.in-Some.ensures.turn;
}

pub loop-turn-preserved : goal.loop-turn-preserved
loop-turn-preserved g c =
    let was = c.loop-turn.invariant.borrows in
    let kept = c.take_turn.ensures.borrows in
    record {
      lender = c.take_turn.ensures.lender ∙ c.loop-turn.invariant.lender;
      borrows = (kept.0 ∙ was.0, kept.1 ∙ was.1, kept.2 ∙ was.2);
      stays = λ all. c.loop-turn.invariant.stays (c.take_turn.ensures.stays all);
      passes =
          passes_more _ _ c.args.max_size c.loop-turn.turn _ _ _
          (passes_later (facts_of g.S.Shelf.is_true g.S.Shelf.has_failed c.loop-turn.bodies.shelf) _ _ c.args.max_size c.loop-turn.turn _ _ c.take_turn.ensures.stays c.loop-turn.invariant.passes)
          c.in_default.ensures.turn;
    }

pub returns-clause-turns : goal.returns-clause-turns
returns-clause-turns g c = absurd (passes_few _ _ c.args.max_size c.loop-turn.turn _ _ (omega arith) c.loop-turn.invariant.passes)
