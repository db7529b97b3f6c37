use Rattle.std.proofs.Common.{take}
use Rattle.std.specs.List.{All}
use Rattle.up_hooks.specs.MayAnswer.{LetsPassOrAllows}
use Rattle.up_hooks.proofs.pre_hooks.ask_each.Given as goal

-- the closures so far let the Ask pass
abbrev pub invariant-loop-hook : goal.invariant-loop-hook
invariant-loop-hook g l = All (LetsPassOrAllows l.ask) (take l.hook-index l.hooks)
