use Rattle.std.proofs.Common.{refl}
use Rattle.up_wire.specs.declared.taken.Taken.TheVariants as Taken
use Rattle.up_dispatch.proofs.TurnLemmas.{cut_turn}
use Rattle.up_dispatch.proofs.conversation.take_turn.Goals as goal

pub returns-in-Cut-clause-turn : goal.returns-in-Cut-clause-turn
returns-in-Cut-clause-turn g c = record {
  taken = Taken.Cut c.in-Cut.message;
  sink = g.W.Sink.device c.read_message.new.sink;
  is_reading = c.in-Cut.ensures;
  is_served = (cut_turn _ _ _ _ _ c.in-Cut.message c.args.max_size c.carry_out_cut.ensures.turn, refl, refl);
}
