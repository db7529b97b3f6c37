use Rattle.std.proofs.Common.{refl}
use Rattle.up_store.proofs.InTurn.{in_turn}
use Rattle.up_store.proofs.stored.StoredKeeper.commit.Goals as goal

pub returns-clause-commit : goal.returns-clause-commit
returns-clause-commit g c =
    let N = g.B.Naming in
    let said = c.in-Some.ensures.said in
    let taken = c.decide-decided in
    in_turn N.queue N.lanes N.max_size c.args.self.now.seat.now taken.new.seat c.args.self.now.known taken.new.known c.known_as-receipt.result.before (record { id = c.args.id; consent = c.in-Some.consent; place = c.place_of.result; request = c.args.request }) c.args.request c.args.id c.args.asked.now taken.result c.answer_of-answer.result
    (refl, refl, said) taken.ensures.known taken.ensures.some taken.ensures.none c.answer_of-answer.ensures.taken c.answer_of-answer.ensures.refused
