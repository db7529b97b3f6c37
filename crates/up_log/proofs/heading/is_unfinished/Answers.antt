use Rattle.std.proofs.Common.{◌∙◌, sym, arith}
use Rattle.up_log.proofs.Headings.{whole_is}
use Rattle.up_log.proofs.heading.is_unfinished.Goals as goal

pub returns : goal.returns
returns c = λ setup are same.
    whole_is setup c.args.front.now c.args.closed.now (omega (arith, c.if-front-lt2.false)) are c.if-front-eq1.false (sym c.split_at.ensures.back ∙ c.are_same.ensures same)
