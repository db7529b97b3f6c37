use Rattle.std.proofs.Common.{◌≡◌, rules, subst}
use Rattle.up_tie.specs.Ties.{Changes}
use Rattle.up_store.specs.Lines.{AreDrawn}
use Rattle.up_store.proofs.line.Line.next.Goals as goal

pub returns-then-may_write-clause-removals : goal.returns-then-may_write-clause-removals
returns-then-may_write-clause-removals g c = λ batch same.
    let is : c.begin_batch.result ≡ batch = cc same in
    subst (λ (b : Changes). AreDrawn c.args.self.now.is_for_removals b.entries) is c.begin_batch.ensures.removals

pub returns-then-is_known-clause-commit : goal.returns-then-is_known-clause-commit
returns-then-is_known-clause-commit g c = search rules
