use Rattle.std.proofs.Common.{take}
use Rattle.std.specs.List.{All}
use Rattle.up_compact.specs.Surveys.{JoinsOnly, has_id}
use Rattle.up_compact.proofs.survey.keeps_parts.Given as goal

abbrev pub invariant-loop-joining : goal.invariant-loop-joining
invariant-loop-joining l = All (JoinsOnly (has_id l.ids)) (take l.joining-index l.joinings)
