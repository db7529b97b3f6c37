use Rattle.std.proofs.Common.{ap}
use Rattle.up_queue.proofs.Moves.{merges, learns_both}
use Rattle.up_queue.proofs.line.join.Goals as goal

pub absorb-requires-clause-rule : goal.absorb-requires-clause-rule
absorb-requires-clause-rule c = merges _ _ _ _ c.requires.puts c.requires.takes

pub learn_as-requires-clause-rule : goal.learn_as-requires-clause-rule
learn_as-requires-clause-rule c = learns_both _ _ (ap (λ v. v.puts) c.absorb.ensures.rule) (ap (λ v. v.takes) c.absorb.ensures.rule)
