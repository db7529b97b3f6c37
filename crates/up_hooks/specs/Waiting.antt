-- An event that waits to be acknowledged, if there is one.
use Rattle.std.specs.Prelude.{List, [], ◌∷◌, Option, Some, None}
use Rattle.up_events.specs.declared.event.Event.{Event}

-- the event, as a list
abbrev pub as_list : Option Event → List Event
as_list None = []
as_list (Some event) = event ∷ []
