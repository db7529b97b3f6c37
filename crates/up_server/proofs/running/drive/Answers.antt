use Rattle.std.proofs.Common.{sum, sym, subst, ◌∙◌}
use Rattle.up_hooks.specs.MayAnswer.{ClosuresMayAnswer}
use Rattle.up_server.specs.Seats.{IsServedFrom}
use Rattle.up_server.proofs.Seating.{come_back, only_seat}
use Rattle.up_server.proofs.running.drive.Goals as goal

pub returns-clause-count : goal.returns-clause-count
returns-clause-count g c = c.in_ok-ended.ensures.count

pub returns-clause-ends : goal.returns-clause-ends
returns-clause-ends g c = c.in_ok-ended.ensures.ends

pub returns-clause-served : goal.returns-clause-served
returns-clause-served g c =
    let given = c.in_ok-ended in
    let a = c.args in
    let seats = c.in_ok-seats.seats.items in
    come_back
    (λ first source sink. IsServedFrom g.B.Naming.queue g.B.Naming.lanes (ClosuresMayAnswer a.hooks.now) g.B.Naming.max_size first (sum seats) (g.R.Source.device a.source.now) (g.R.Source.device source) (g.W.Sink.device a.sink.now) (g.W.Sink.device sink) given.ended)
    c.in-Some.seat _ given.source.now _ given.sink.now _ (sym c.in-Some.ensures) (c.source-2-1.given.1 (sym given.ensures.done.0) ∙ c.give_back.ensures) (c.sink-2-1.given.1 (sym given.ensures.done.1.0) ∙ c.give_back-2.ensures) (
    subst
    (λ n. IsServedFrom g.B.Naming.queue g.B.Naming.lanes (ClosuresMayAnswer a.hooks.now) g.B.Naming.max_size c.in-Some.seat n (g.R.Source.device a.source.now) (g.R.Source.device given.source.now) (g.W.Sink.device a.sink.now) (g.W.Sink.device given.sink.now) given.ended)
    (sym (only_seat seats given.seat c.in_ok-seats.ensures)) given.ensures.done.1.1)
