use Rattle.std.proofs.Common.{inl, inr, refl}
use Rattle.up_hooks.proofs.pre_hooks.ask_last.Goals as goal

pub returns-in-Allow-clause-closures : goal.returns-in-Allow-clause-closures
returns-in-Allow-clause-closures g c = inr (inl (c.in-Allow.ensures.answer, refl))

pub returns-in-Refuse-clause-closures : goal.returns-in-Refuse-clause-closures
returns-in-Refuse-clause-closures g c =
    inr (inr (c.in-Refuse.status, c.in-Refuse.reason, c.in-Refuse.ensures.answer, refl))
