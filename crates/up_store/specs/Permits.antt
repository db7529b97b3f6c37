-- What a store is checked for before events are handed over.
use Rattle.std.specs.Prelude.{◌≡◌, ℕ, ◌+◌, ◌≤◌, List}
use Rattle.up_dispatch.specs.Tied.{HasLogged}
use Rattle.up_handed.specs.declared.counted.Counted.{Counted}
use Rattle.up_log.specs.declared.entry.Entry.{Entry}
use Rattle.up_store.specs.declared.permit.Permit.{Permit}

-- what earlier runs counted of the events of each lane
abbrev pub counted_in : Permit → List Counted
counted_in permit = permit.counted.items

-- in the book that these entries define, the log of the lane has as many events as earlier runs counted, with those that
-- a shorter log leaves out
abbrev pub HasCounted : ℕ → ℕ → List Entry → ℕ → Counted → Type 0
HasCounted lanes max_size entries lane counted =
    (logged : ℕ) × HasLogged lanes max_size entries lane logged × (counted.count ≤ counted.left_out + logged)
