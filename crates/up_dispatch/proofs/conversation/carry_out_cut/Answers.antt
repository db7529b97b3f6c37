use Rattle.std.proofs.Common.{Ok}
use Rattle.up_headers.specs.declared.request.Request.TheVariants as request
use Rattle.up_dispatch.proofs.conversation.carry_out_cut.Goals as goal

pub returns-in-Ok-Patch-clause-turn : goal.returns-in-Ok-Patch-clause-turn
returns-in-Ok-Patch-clause-turn g c = (
  Ok (request.Patch c.in-Ok-Patch.patch),
  rw c.in-Ok-Patch.field-0-is at c.in-Ok-Patch.ensures.answer,
  (c.answer_about.result, rw c.new.ensures at c.answer_about.ensures.answered),
)
