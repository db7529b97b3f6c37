use Rattle.std.proofs.Common.{inr}
use Rattle.up_server.proofs.listening.keep_serving.Goals as goal

pub returns-in-Ok : goal.returns-in-Ok
returns-in-Ok g c = inr (c.in-Ok.counts, c.in-Ok.ensures.report, c.in-Ok.ensures.sound, c.in-Ok.ensures.settled, c.report_outcome.ensures)
