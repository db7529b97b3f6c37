use Rattle.std.proofs.Common.{◌+◌, length}
use Rattle.up_log.specs.Staging.{closed_body, IsStagedTo}
use Rattle.up_log.proofs.Pieces.{before}
use Rattle.up_log.proofs.staging.write_body.Given as goal

abbrev pub invariant-loop-logged : goal.invariant-loop-logged
invariant-loop-logged g l =
    IsStagedTo g.D.Disk (l.gate + 1) (length (closed_body l.entries)) (before l.entries l.logged-index) l.fn.disk l.disk l.at l.room.items
