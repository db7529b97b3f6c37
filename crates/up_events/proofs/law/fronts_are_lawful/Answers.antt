use Rattle.up_events.proofs.FrontLemmas.{fronts_lawful}
use Rattle.up_events.proofs.law.fronts_are_lawful.Goals as goal

pub returns : goal.returns
returns c = fronts_lawful
