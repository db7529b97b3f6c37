use Rattle.std.proofs.Common.{rules}
use Rattle.up_queue.proofs.Beginnings.{orderly_upto}
use Rattle.up_tests.proofs.lanes.parts.put_at.Goals as goal

pub put-requires : goal.put-requires
put-requires g c = record { orderly = let o = orderly_upto c.args.items.now c.args.place c.index-items-place.result c.requires.orderly c.requires.place in search rules }
