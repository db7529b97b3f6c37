use Rattle.std.proofs.Common.{refl, sym, ◌∙◌, subst}
use Rattle.up_server.specs.Reported.{IsReportOf}
use Rattle.up_server.proofs.Seating.{served_so}
use Rattle.up_server.proofs.running.run.Goals as goal

pub returns-clause-run : goal.returns-clause-run
returns-clause-run g c =
    let report = c.in_ok-report.report in
    let said = c.in_ok-report.ensures in
    record {
      converses = served_so _ _ _ _ _ _ _ _ _ _ _ _ _ _ _ c.requires.lanes c.requires.sized refl (sym said.counts) c.in_ok-ended.ensures.served;
      report = subst (λ n. IsReportOf g.H.PostHook.handed n report) (c.in_ok-ended.ensures.count ∙ c.in_ok-board.ensures.count) said.report;
    }

pub returns-clause-sound : goal.returns-clause-sound
returns-clause-sound g c = c.in_ok-report.ensures.sound
