use Rattle.std.proofs.Common.{rules}
use Rattle.up_queue.proofs.Moves.{begins, forks}
use Rattle.up_queue.proofs.line.open.Goals as goal

pub ruled-requires-clause-rule : goal.ruled-requires-clause-rule
ruled-requires-clause-rule g c = begins

pub another-taker-requires-clause-rule : goal.another-taker-requires-clause-rule
another-taker-requires-clause-rule g c = forks _ _ _ (search rules) (search rules) (search rules)
