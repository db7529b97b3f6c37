use Rattle.up_machine.proofs.PlanLemmas.{refusals_kept}
use Rattle.up_machine.proofs.law.refusals_of_plans_are_kept.Goals as goal

pub returns : goal.returns
returns c = refusals_kept
