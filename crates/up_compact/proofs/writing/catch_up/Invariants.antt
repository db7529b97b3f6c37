use Rattle.std.proofs.Common.{◌≡◌, ◌-◌, List, ◌++◌}
use Rattle.up_log.specs.Held.{AreHeld}
use Rattle.up_log.specs.Logs.{IsCleanLog, IsSettled}
use Rattle.up_log.specs.declared.entry.Entry.{Entry}
use Rattle.up_log.specs.declared.setup.Setup.{Setup}
use Rattle.up_compact.specs.Surveys.{has_id}
use Rattle.up_compact.specs.Writing.{HasEntries, IsBehind, staying}
use Rattle.up_compact.proofs.writing.catch_up.Given as goal

abbrev pub invariant-loop-entries : goal.invariant-loop-entries
invariant-loop-entries g l = record {
  added : (setup : Setup) (read left : List (List Entry))
      → IsSettled g.D.Disk l.fn.log setup (read ++ left) → AreHeld (g.C.Contents.content l.files) left → IsBehind l.fn.progress setup read
      → HasEntries g.S.Disk l.fn.shorter setup (staying (has_id l.left_out.voids) (has_id l.left_out.uploads) read)
      → IsCleanLog g.D.Disk l.log
      → (done : List (List Entry)) × (rest : List (List Entry)) × (done ++ rest ≡ read ++ left) × AreHeld (g.C.Contents.content l.files) rest
      × IsBehind l.progress setup done
      × HasEntries g.S.Disk l.shorter setup (staying (has_id l.left_out.voids) (has_id l.left_out.uploads) done);
  kept : (setup : Setup) (batches : List (List Entry)) → IsSettled g.D.Disk l.fn.log setup batches → IsSettled g.D.Disk l.log setup batches;
}

abbrev pub decreases-loop-entries : goal.decreases-loop-entries
decreases-loop-entries g l = l.log.gate - l.progress.place
