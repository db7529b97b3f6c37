use Rattle.up_compact.specs.Surveys.{IsSubset}
use Rattle.up_compact.proofs.survey.without_parts.Given as goal

abbrev pub invariant-loop : goal.invariant-loop
invariant-loop l = IsSubset l.ids l.fn.ended
