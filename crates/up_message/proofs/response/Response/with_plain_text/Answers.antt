use Rattle.std.proofs.Common.{arith}
use Rattle.std.proofs.lemmas.Grind.{moves}
use Rattle.up_message.proofs.response.Response.with_plain_text.Goals as goal

pub returns : goal.returns
returns c = grind (arith, moves)
