use Rattle.std.proofs.Common.{ap}
use Rattle.up_queue.proofs.Moves.{takes}
use Rattle.up_queue.proofs.line.pop.Goals as goal

pub pop_as-requires-clause-rule : goal.pop_as-requires-clause-rule
pop_as-requires-clause-rule g c =
    let may = ap (λ v. v.takes) c.requires.takes in
    (takes _ _ may, λ _ _ _ _. tt)
