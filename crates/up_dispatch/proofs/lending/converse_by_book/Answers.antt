use Rattle.std.proofs.Common.{refl, rules}
use Rattle.up_dispatch.proofs.Borrowed.{over_book}
use Rattle.up_dispatch.proofs.lending.converse_by_book.Goals as goal

pub returns-clause-turns : goal.returns-clause-turns
returns-clause-turns g c =
    over_book _ _ _ g.R.Source.device g.W.Sink.device _ _ _ _ _ _ _ _ _ _ _ _ _ _ c.new-lent.ensures.state (search rules) refl refl refl
    (c.lent_conversation_is_exact.ensures.turns _ _ _ _ c.converse.ensures.turns)
