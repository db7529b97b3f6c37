use Rattle.std.proofs.Common.{◌≡◌, ◌+◌, length, take}
use Rattle.std.specs.List.{flat_map}
use Rattle.up_log.specs.Spelling.{entry}
use Rattle.up_log.proofs.staging.size_of.Given as goal

abbrev pub invariant-loop-logged : goal.invariant-loop-logged
invariant-loop-logged l = l.size ≡ 8 + length (flat_map entry (take l.logged-index l.entries))
