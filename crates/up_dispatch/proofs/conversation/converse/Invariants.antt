use Rattle.std.specs.Prelude.{◌≡◌}
use Rattle.up_hooks.specs.MayAnswer.{ClosuresMayAnswer}
use Rattle.up_dispatch.specs.Answering.{Serves}
use Rattle.up_dispatch.specs.Exchanges.{KeepsBorrows, facts_of, stand_in}
use Rattle.up_dispatch.specs.Keeps.{keeping}
use Rattle.up_dispatch.specs.Turn.{TurnsLeadTo}
use Rattle.up_dispatch.proofs.conversation.converse.Given as goal

abbrev pub invariant-loop-turn : goal.invariant-loop-turn
invariant-loop-turn g l =
    let keeper = g.K.Keeper in
    let at = stand_in g.R.Source.device g.W.Sink.device in
    record {
      lender : keeper.lender l.keeper ≡ keeper.lender l.initial.keeper;
      borrows : KeepsBorrows l.initial.exchange l.exchange;
      stays : g.S.Shelf.is_true l.bodies.shelf → g.S.Shelf.is_true l.initial.bodies.shelf;
      passes : TurnsLeadTo (facts_of g.S.Shelf.is_true g.S.Shelf.has_failed l.bodies.shelf) (Serves (keeping keeper.plans keeper.commits (ClosuresMayAnswer l.hooks)) g.I.Ids.draws) l.max_size l.turn
          (at (keeper.state l.initial.keeper) l.initial.exchange)
          (at (keeper.state l.keeper) l.exchange);
    }
