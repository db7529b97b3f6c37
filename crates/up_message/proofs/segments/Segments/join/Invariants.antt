use Rattle.std.proofs.Common.{◌≡◌, ◌++◌, take}
use Rattle.up_message.specs.Joins.{pieced}
use Rattle.up_message.proofs.segments.Segments.join.Given as goal

abbrev pub invariant-loop-run : goal.invariant-loop-run
invariant-loop-run l = l.self ≡ l.fn.self ++ pieced (take l.run-index l.front)
