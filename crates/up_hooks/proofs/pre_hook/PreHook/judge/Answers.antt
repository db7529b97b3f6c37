use Rattle.std.proofs.Common.{refl}
use Rattle.up_hooks.proofs.pre_hook.PreHook.judge.Goals as goal

pub returns-clause-answer : goal.returns-clause-answer
returns-clause-answer g c = record { shown = c.args.ask; shows = refl; says = record { met = c.call.ensures } }
