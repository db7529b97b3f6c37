-- The state of a queue between any two steps.
use Rattle.std.specs.Prelude.{◌≡◌, ℕ, ◌≤◌, List, [], ◌∷◌, ◌++◌, length, map, Bool, true, false}
use Rattle.up_events.specs.declared.event.Event.{Event}
use Rattle.up_events.specs.Log.{IsLawful}
use Rattle.up_queue.specs.declared.item.Item.{Item}
use Rattle.up_queue.specs.declared.item.Item.TheVariants as item

-- the events among the items, in order
abbrev pub events_among : List Item → List Event
events_among [] = []
events_among (item.Event e ∷ items) = e ∷ events_among items
events_among (item.End ∷ items) = events_among items

-- the items with these events
abbrev pub items_of : List Event → List Item
items_of events = map (λ (e : Event). item.Event e) events

-- an end, if there is one
abbrev pub end_if : Bool → List Item
end_if true = item.End ∷ []
end_if false = []

-- the items with these events, followed by the end if there is one
abbrev pub items_if : List Event → Bool → List Item
items_if events ended = items_of events ++ end_if ended

-- nothing comes after an end
abbrev pub EndsLast : List Item → Type 0
EndsLast [] = Unit {0}
EndsLast (item.Event e ∷ items) = EndsLast items
EndsLast (item.End ∷ items) = items ≡ []

-- what may be put: lawful events, followed by at most one end
pub record IsOrderly (items : List Item) : Type 0 where
  pub lawful : IsLawful (events_among items)
  pub ends_last : EndsLast items

-- what was put is what was taken, followed by what the queue holds, which is at most the capacity; and it is orderly
pub record IsQueueState (capacity : ℕ) (put taken held : List Item) : Type 0 where
  pub whole : put ≡ taken ++ held
  pub room : length held ≤ capacity
  pub orderly : IsOrderly put
