use Rattle.std.proofs.Common.{rules}
use Rattle.up_store.proofs.store.Store.write.Goals as goal

pub append_removals-written-requires : goal.append_removals-written-requires
append_removals-written-requires g c = search rules
