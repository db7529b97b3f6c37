use Rattle.up_dispatch.proofs.board.Board.finish.Goals as goal

pub returns-in-Err-clause-refused : goal.returns-in-Err-clause-refused
returns-in-Err-clause-refused g c = (c.inside.inside.inside, c.is_lawful.ensures, c.in-Err.ensures.refused)

pub returns-in-Ok-clause-all_lanes : goal.returns-in-Ok-clause-all_lanes
returns-in-Ok-clause-all_lanes g c = c.in-Ok.ensures.all_lanes

pub returns-in-Ok-clause-legal : goal.returns-in-Ok-clause-legal
returns-in-Ok-clause-legal g c = c.in-Ok.ensures.legal

pub returns-in-Ok-clause-counts : goal.returns-in-Ok-clause-counts
returns-in-Ok-clause-counts g c = c.in-Ok.ensures.counts

pub returns-in-Ok-clause-lanes : goal.returns-in-Ok-clause-lanes
returns-in-Ok-clause-lanes g c = c.in-Ok.ensures.lanes

pub returns-in-Ok-clause-handed : goal.returns-in-Ok-clause-handed
returns-in-Ok-clause-handed g c = c.in-Ok.ensures.handed

pub returns-in-Ok-clause-delivered : goal.returns-in-Ok-clause-delivered
returns-in-Ok-clause-delivered g c = c.in-Ok.ensures.delivered

pub returns-in-Err-clause-back : goal.returns-in-Err-clause-back
returns-in-Err-clause-back g c = (c.in-Err.ensures.back.1, c.in-Err.ensures.back.2)
