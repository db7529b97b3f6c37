use Rattle.up_machine.specs.Decision.{asked_rows, patch_completes, patch_rows}
use Rattle.std.proofs.Common.{Some, arith, rules}
use Rattle.std.proofs.lemmas.Grind.{common_steps}
use Rattle.up_machine.proofs.DecisionLemmas.{refused_before}
use Rattle.up_machine.proofs.checks.check_found.Goals as goal

pub returns-in_err-step : goal.returns-in_err-step
returns-in_err-step c =
    refused_before (patch_rows c.args.max_size c.args.patch.now c.args.upload.now) (asked_rows (patch_completes c.args.patch.now (Some c.args.upload.now)) c.args.asked.now) _ _ c.in_err-step.field-0.0 c.from_residual.result c.from_residual.ensures.1 c.in_err-step.ensures

pub returns-in_err-check_asked : goal.returns-in_err-check_asked
returns-in_err-check_asked c = grind (arith, common_steps)

pub returns : goal.returns
returns c = search rules
