use Rattle.std.proofs.Common.{take, true}
use Rattle.up_message.specs.Joins.{pieced}
use Rattle.up_wire.specs.Shown.{Shows}
use Rattle.up_wire.proofs.shown.write_runs.Given as goal

abbrev pub invariant-loop-run : goal.invariant-loop-run
invariant-loop-run g l = record {
  shown : Shows g.W.Sink g.S.Shelf l.fn.sink l.sink l.fn.shelf l.shelf l.fn.interruptions l.interruptions (pieced (take l.run-index l.runs)) true;
  stays : g.S.Shelf.is_true l.shelf → g.S.Shelf.is_true l.fn.shelf;
}
