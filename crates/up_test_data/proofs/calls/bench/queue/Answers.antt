use Rattle.std.proofs.Common.{[], ◌∷◌, ◌++◌, sym, ap, subst}
use Rattle.up_events.proofs.FrontLemmas.{nothing_lawful}
use Rattle.up_queue.specs.declared.item.Item.TheVariants as item
use Rattle.up_queue.specs.Line.{IsOrderly}
use Rattle.up_queue.proofs.Orders.{orderly_ended}
use Rattle.up_test_data.proofs.calls.bench.queue.Goals as goal

pub put-requires : goal.put-requires
put-requires g c = record {
  orderly = subst IsOrderly (ap (λ l. l ++ item.End ∷ []) (sym c.in-Ok.ensures.new.empty.0)) (orderly_ended [] nothing_lawful);
}
