use Rattle.up_events.proofs.HistoryLemmas.{log_of-snoc}
use Rattle.up_events.proofs.law.logs_grow_at_their_end.Goals as goal

pub returns : goal.returns
returns c = λ lanes k changes change. log_of-snoc lanes changes change k
