use Rattle.std.proofs.Common.{rules}
use Rattle.up_hooks.proofs.pre_hook.PreHook.is_of.Goals as goal

pub returns : goal.returns
returns g c = search rules
