use Rattle.up_compact.specs.Surveys.{IsSubset}
use Rattle.up_compact.proofs.survey.take_out.Given as goal

abbrev pub invariant-loop-part : goal.invariant-loop-part
invariant-loop-part l = IsSubset l.ids l.fn.ids
