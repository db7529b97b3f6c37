use Rattle.std.proofs.Common.{◌≡◌, length}
use Rattle.up_events.specs.Ascending.{ids_in}
use Rattle.up_events.proofs.AscendingLemmas.{IsMoved}
use Rattle.up_events.proofs.sorted_ids.put_at.Given as goal

abbrev pub invariant-loop-k : goal.invariant-loop-k
invariant-loop-k l = (length l.blocks.items ≡ length l.fn.blocks.items) × IsMoved (ids_in l.fn.blocks.items) l.fn.place l.fn.id l.k l.at l.moved l.blocks.items
