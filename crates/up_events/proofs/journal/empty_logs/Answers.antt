use Rattle.up_events.proofs.JournalLemmas.{empty_more}
use Rattle.up_events.proofs.journal.empty_logs.Goals as goal

pub loop-preserved : goal.loop-preserved
loop-preserved c = empty_more c.loop.counter c.loop.logs.items c.push.new.self.items c.new.result c.loop.invariant c.new.ensures.first c.new.ensures.events c.in_ok-push.ensures.items
