use Rattle.up_events.proofs.DeliveryLemmas.{delivered}
use Rattle.up_events.proofs.law.numbered_events_are_delivered.Goals as goal

pub returns : goal.returns
returns c = delivered
