use Rattle.std.proofs.Common.{◌≡◌, ◌+◌, ◌++◌, drop}
use Rattle.up_compact.specs.Shorter.{kept}
use Rattle.up_compact.specs.Surveys.{has_id}
use Rattle.up_compact.specs.Writing.{carried_out}
use Rattle.up_compact.proofs.writing.spell_staying.Given as goal

abbrev pub invariant-loop-entry : goal.invariant-loop-entry
invariant-loop-entry l =
    (l.place ≡ l.fn.first + l.entry-index)
    × (l.spelled.items ++ kept (has_id l.left_out.uploads) (carried_out (has_id l.left_out.voids) l.place (drop l.entry-index l.entries))
    ≡ kept (has_id l.left_out.uploads) (carried_out (has_id l.left_out.voids) l.fn.first l.entries))
