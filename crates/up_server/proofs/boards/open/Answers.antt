use Rattle.std.proofs.Common.{[], ap, ◌∙◌, arith}
use Rattle.std.proofs.lemmas.Grind.{common_steps}
use Rattle.up_lanes.specs.LaneViews.{LaneView}
use Rattle.up_queue.specs.EndViews.{TakeEndView, no_queue}
use Rattle.up_server.proofs.boards.open.Goals as goal

pub returns-clause-lanes : goal.returns-clause-lanes
returns-clause-lanes g c = λ k d within.
    let e : TakeEndView = record { queue = no_queue; capacity = 0; taken = [] } in
    let is = c.in_ok-lanes.ensures.lanes k d within e d.hook in
    let end = c.in_ok-board.ensures.ends.1 k e (omega (arith, within, c.in_ok-lanes.ensures.count, c.in_ok-lanes.lanes.ok.0, c.in_ok-board.takes.ok.0)) in
    (ap (λ (l : LaneView g.row.H.Denot). l.lane) is, ap (λ (l : LaneView g.row.H.Denot). l.queue) is ∙ end.1)

pub lanes_over-requires-clause-taken : goal.lanes_over-requires-clause-taken
lanes_over-requires-clause-taken g c κs within = λ k d inside. (c.in_ok-board.ensures.ends.1 k d inside).0

pub lanes_over-requires-clause-one_each : goal.lanes_over-requires-clause-one_each
lanes_over-requires-clause-one_each g c κs within = grind (arith, common_steps)

pub returns-clause-count : goal.returns-clause-count
returns-clause-count g c = grind (arith, common_steps)
