use Rattle.std.proofs.Common.{◌≡◌}
use Rattle.up_events.specs.Records.{first_of}
use Rattle.up_tests.proofs.lanes.parts.log_of.Given as goal

-- nothing was forgotten
abbrev pub invariant-loop-number : goal.invariant-loop-number
invariant-loop-number l = first_of l.journal 0 ≡ 0
