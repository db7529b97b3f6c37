use Rattle.std.proofs.Common.{refl}
use Rattle.up_history.proofs.front.Front.add.Goals as goal

pub add_by-requires-clause-one : goal.add_by-requires-clause-one
add_by-requires-clause-one g c = (c.args.entry.now, refl)
