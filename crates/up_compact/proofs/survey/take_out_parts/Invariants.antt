use Rattle.up_compact.specs.Surveys.{IsSubset}
use Rattle.up_compact.proofs.survey.take_out_parts.Given as goal

abbrev pub invariant-loop-joining : goal.invariant-loop-joining
invariant-loop-joining l = IsSubset l.ids l.fn.ids
