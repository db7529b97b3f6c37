use Rattle.std.proofs.Common.{arith}
use Rattle.up_headers.proofs.MetadataAnswers.{answer_ok, answer_err}
use Rattle.up_headers.proofs.metadata.pairs_of.Goals as goal

pub returns-clause-ok : goal.returns-clause-ok
returns-clause-ok c = answer_ok c.args.text.now _ (λ i. let f = c.type_inv.text i in omega arith) c.read_pairs.ensures

pub returns-clause-err : goal.returns-clause-err
returns-clause-err c = answer_err c.args.text.now _ (λ i. let f = c.type_inv.text i in omega arith) c.read_pairs.ensures
