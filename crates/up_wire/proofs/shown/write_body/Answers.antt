use Rattle.up_wire.proofs.Showing.{shows_as, shows_cut_at, shows_then_at}
use Rattle.up_wire.proofs.shown.write_body.Goals as goal

pub returns-then-not-write_runs-clause-shown : goal.returns-then-not-write_runs-clause-shown
returns-then-not-write_runs-clause-shown g c = shows_as c.runs.ensures (shows_cut_at _ c.if-not-write_runs.true c.write_runs.ensures.shown)

pub returns-clause-shown : goal.returns-clause-shown
returns-clause-shown g c =
    shows_as c.runs.ensures (shows_then_at c.if-not-write_runs.false c.write_pieces.ensures.stays c.write_runs.ensures.shown (shows_as c.pieces.ensures c.write_pieces.ensures.shown))
