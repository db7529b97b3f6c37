-- A post-hook whose events are acknowledged, as contracts describe it.
use Rattle.std.specs.Prelude.{List}
use Rattle.up_events.specs.declared.event.Event.{Event}
use Rattle.up_hooks.specs.Waiting.{as_list}
use Rattle.up_hooks.specs.declared.courier.Courier.{Courier}
use Rattle.up_hooks.specs.declared.delivery.Delivery as delivery

module _ {D : Type 0} {g : delivery.Ghosts D} where
  -- the way of its events
  abbrev pub delivery_of : Courier D g → D
  delivery_of courier = courier.delivery

  -- the event that it was handed last, if that isn't acknowledged yet
  abbrev pub waiting_of : Courier D g → List Event
  waiting_of courier = as_list courier.waiting
