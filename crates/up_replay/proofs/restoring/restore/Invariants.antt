use Rattle.std.proofs.Common.{◌≡◌, [], List, ◌++◌}
use Rattle.up_log.specs.Held.{AreHeld}
use Rattle.up_log.specs.Logs.{IsCleanReader, IsReaderAt, unread}
use Rattle.up_log.specs.declared.entry.Entry.{Entry}
use Rattle.up_log.specs.declared.setup.Setup.{Setup}
use Rattle.up_replay.specs.Replay.{entries_of, replayed}
use Rattle.up_replay.proofs.restoring.restore.Given as goal

abbrev pub invariant-loop-reader : goal.invariant-loop-reader
invariant-loop-reader g l =
    (setup : Setup) (batches : List (List Entry)) → IsReaderAt g.D.Disk l.fn.reader setup [] batches → AreHeld (g.C.Contents.content l.files) batches → IsCleanReader g.D.Disk l.reader
    → (read : List (List Entry)) × (left : List (List Entry)) × IsReaderAt g.D.Disk l.reader setup read left × AreHeld (g.C.Contents.content l.files) left
    × (read ++ left ≡ batches) × (replayed l.book (entries_of left) ≡ replayed l.fn.book (entries_of batches))

abbrev pub decreases-loop-reader : goal.decreases-loop-reader
decreases-loop-reader g l = unread l.reader
