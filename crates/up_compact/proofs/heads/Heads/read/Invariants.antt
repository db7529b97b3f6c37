use Rattle.std.proofs.Common.{◌≡◌, [], List, ◌++◌}
use Rattle.up_log.specs.Logs.{IsCleanReader, IsReaderAt, unread}
use Rattle.up_log.specs.declared.entry.Entry.{Entry}
use Rattle.up_log.specs.declared.setup.Setup.{Setup}
use Rattle.up_compact.specs.Heads.{first_head, head_after}
use Rattle.up_compact.proofs.heads.Heads.read.Given as goal

abbrev pub invariant-loop-head : goal.invariant-loop-head
invariant-loop-head g l =
    (setup : Setup) (batches : List (List Entry)) → IsReaderAt g.D.Disk l.fn.reader setup [] batches → IsCleanReader g.D.Disk l.reader
    → (read : List (List Entry)) × (left : List (List Entry)) × IsReaderAt g.D.Disk l.reader setup read left
    × (read ++ left ≡ batches) × (head_after l.head left ≡ head_after first_head batches)

abbrev pub decreases-loop-head : goal.decreases-loop-head
decreases-loop-head g l = unread l.reader
