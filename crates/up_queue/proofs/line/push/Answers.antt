use Rattle.std.proofs.Common.{ap}
use Rattle.up_queue.proofs.Moves.{puts, learns_held}
use Rattle.up_queue.proofs.line.push.Goals as goal

pub push_as-requires-clause-rule : goal.push_as-requires-clause-rule
push_as-requires-clause-rule g c =
    let may = ap (λ v. v.puts) c.requires.puts in
    (puts _ _ _ _ may (ap (λ v. v.capacity) c.requires.puts) c.requires.orderly, learns_held _ _ may)
