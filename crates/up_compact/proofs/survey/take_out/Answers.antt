use Rattle.std.proofs.Common.{◌∙◌, sym}
use Rattle.up_compact.specs.Surveys.{has_id}
use Rattle.up_compact.proofs.Surveying.{cond_true}
use Rattle.up_compact.proofs.survey.take_out.Goals as goal

pub loop-part-preserved : goal.loop-part-preserved
loop-part-preserved c = λ u there. c.loop-part.invariant u (cond_true _ (has_id c.loop-part.ids u) (sym (c.remove.ensures.updates.0 u) ∙ there))
