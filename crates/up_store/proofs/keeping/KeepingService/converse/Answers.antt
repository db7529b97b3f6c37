use Rattle.std.proofs.Common.{rules}
use Rattle.up_store.proofs.keeping.KeepingService.converse.Goals as goal

pub returns : goal.returns
returns g c = search rules
