use Rattle.std.proofs.Common.{sym, subst, arith}
use Rattle.std.proofs.lemmas.Grind.{common_steps}
use Rattle.http_header.specs.Token.{IsToken}
use Rattle.up_wire.proofs.Tokens.{token_of_token}
use Rattle.up_wire.proofs.head.parse.Goals as goal

pub head_of-requires-clause-token : goal.head_of-requires-clause-token
head_of-requires-clause-token c =
    let complete = rw c.in-Ok-Complete.field-0-is at c.in-Ok-Complete.ensures.complete in
    subst IsToken (sym complete.1.method) (token_of_token complete.0.method complete.1.reads.0.method)

pub returns-in-Ok : goal.returns-in-Ok
returns-in-Ok c = grind (arith, common_steps)

pub returns-in-Err-head_of : goal.returns-in-Err-head_of
returns-in-Err-head_of c = grind (arith, common_steps)
