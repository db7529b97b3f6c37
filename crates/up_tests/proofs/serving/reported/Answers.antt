use Rattle.std.proofs.Common.{inl, inr, rules}
use Rattle.up_tests.proofs.serving.reported.Goals as goal

pub returns : goal.returns
returns g c = elim c.in_ok-serve.ensures [ inl e ↦ absurd cc | inr told ↦ (told.0, told.1, told.4.1, search rules) ]
