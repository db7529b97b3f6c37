use Rattle.std.proofs.Common.{◌≡◌, [], ℕ, rules, subst}
use Rattle.up_hooks.specs.MayAnswer.{ClosuresMayAnswer}
use Rattle.up_dispatch.specs.Answering.{Serves}
use Rattle.up_dispatch.specs.Exchanges.{stand_in}
use Rattle.up_dispatch.specs.Keepers.{SeatState, seat_state}
use Rattle.up_dispatch.specs.Turn.{Converses, no_disk}
use Rattle.up_store.specs.StoredCommits.{by_stored_seat}
use Rattle.up_store.proofs.keeping.converse_stored.Goals as goal

pub returns-clause-served : goal.returns-clause-served
returns-clause-served g c =
    let N = g.B.Naming in
    let source = g.R.Source.device in
    let sink = g.W.Sink.device in
    let done = c.converse-ended in
    let keeps = by_stored_seat N.queue N.lanes N.max_size (ClosuresMayAnswer c.args.hooks.now) in
    let Served : SeatState → SeatState → Type 0 = λ old new. Converses no_disk (Serves keeps g.I.Ids.draws) N.max_size (stand_in source sink old c.args.exchange.now) (stand_in source sink new done.new.exchange) done.result in
    let turns : Served (seat_state c.args.seat.now []) (seat_state done.new.keeper.seat.now done.new.keeper.known) = subst (λ s. Served s (seat_state done.new.keeper.seat.now done.new.keeper.known)) c.new-stored.ensures.state (search rules) in
    subst (λ (n : ℕ). Served (seat_state c.args.seat.now []) (seat_state n done.new.keeper.known)) (search rules) turns
