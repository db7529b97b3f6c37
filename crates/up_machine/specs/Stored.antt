-- The content of an upload's store.
use Rattle.std.specs.Prelude.{◌≡◌, ◌≤◌, ℕ, List, Option, Some, length}
use Rattle.up_events.specs.History.{max_length_of}
use Rattle.up_machine.specs.declared.store.Store.{Store}
use Rattle.up_machine.specs.declared.store.Store.TheVariants.{Open, Whole}

-- the bytes
abbrev pub stored : Store → List ℕ
stored (Open pieces) = pieces
stored (Whole segments) = segments

-- no more bytes than the length allows, and all of them if they are shared
abbrev pub IsStored : Store → Option ℕ → Type 0
IsStored (Open pieces) size = length pieces ≤ max_length_of size
IsStored (Whole segments) size = size ≡ Some (length segments)
