use Rattle.std.proofs.Common.{rules}
use Rattle.up_hooks.proofs.recorder.RecorderPostHook.hand.Goals as goal

pub returns-clause-answer : goal.returns-clause-answer
returns-clause-answer g c = search rules

pub returns-clause-added : goal.returns-clause-added
returns-clause-added g c = search rules
