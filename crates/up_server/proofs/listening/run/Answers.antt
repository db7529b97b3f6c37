use Rattle.std.proofs.Common.{◌∙◌, subst, IfOk}
use Rattle.up_server.specs.Reported.{IsReportOf}
use Rattle.up_server.proofs.listening.run.Goals as goal

pub returns-clause-report : goal.returns-clause-report
returns-clause-report g c =
    subst (λ n. IfOk c.finish.result (λ r. IsReportOf g.H.PostHook.handed n r)) (c.in_ok-seats.ensures.count ∙ c.in_ok-board.ensures.count) c.finish.ensures.report

pub returns-clause-sound : goal.returns-clause-sound
returns-clause-sound g c = c.finish.ensures.sound

pub returns-clause-settled : goal.returns-clause-settled
returns-clause-settled g c = c.finish.ensures.settled
