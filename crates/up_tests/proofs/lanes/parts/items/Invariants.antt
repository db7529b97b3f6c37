use Rattle.std.proofs.Common.{◌≡◌, take}
use Rattle.up_queue.specs.Line.{items_of}
use Rattle.up_tests.proofs.lanes.parts.items.Given as goal

abbrev pub invariant-loop-event : goal.invariant-loop-event
invariant-loop-event l = l.items.items ≡ items_of (take l.event-index l.event-items)
