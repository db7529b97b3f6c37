use Rattle.std.proofs.Common.{ap}
use Rattle.up_queue.proofs.Moves.{learns_held}
use Rattle.up_queue.proofs.line.held.Goals as goal

pub len_as-requires-clause-rule : goal.len_as-requires-clause-rule
len_as-requires-clause-rule g c = learns_held _ _ (ap (λ v. v.puts) c.requires.puts)
