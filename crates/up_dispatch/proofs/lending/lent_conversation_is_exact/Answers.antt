use Rattle.up_hooks.specs.MayAnswer.{ClosuresMayAnswer}
use Rattle.up_dispatch.proofs.Alike.{converses_alike}
use Rattle.up_dispatch.proofs.BookLemmas.{exact}
use Rattle.up_dispatch.proofs.HistoryLemmas.{goes_on_conversed}
use Rattle.up_dispatch.specs.Turn.{no_disk}
use Rattle.up_dispatch.proofs.lending.lent_conversation_is_exact.Goals as goal

pub returns-clause-turns : goal.returns-clause-turns
returns-clause-turns g c max_size old new ended converses =
    converses_alike no_disk _ _ (exact (ClosuresMayAnswer c.args._hooks.now)) max_size old new ended converses

pub returns-clause-goes_on : goal.returns-clause-goes_on
returns-clause-goes_on g c max_size old new ended converses =
    goes_on_conversed no_disk (ClosuresMayAnswer c.args._hooks.now) max_size old new ended converses
