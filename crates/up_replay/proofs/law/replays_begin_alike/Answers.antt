use Rattle.up_replay.proofs.ReplayLemmas.{go_on, changes_begin, logs_begin}
use Rattle.up_replay.proofs.law.replays_begin_alike.Goals as goal

pub returns-clause-goes_on : goal.returns-clause-goes_on
returns-clause-goes_on c = go_on

pub returns-clause-changes : goal.returns-clause-changes
returns-clause-changes c = changes_begin c.logs_grow_at_their_end.ensures

pub returns-clause-logs : goal.returns-clause-logs
returns-clause-logs c = logs_begin c.logs_grow_at_their_end.ensures
