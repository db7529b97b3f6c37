use Rattle.std.proofs.Common.{rules}
use Rattle.up_server.proofs.connection_limit.ConnectionLimit.acquire.Goals as goal

pub overflow_add-deref_mut : goal.overflow_add-deref_mut
overflow_add-deref_mut g c = search rules

pub returns : goal.returns
returns g c = search rules
