-- The accepted changes as a program has them: all of them, or only their number.
use Rattle.std.specs.Prelude.{◌≡◌, ℕ, ◌+◌, ◌^◌, Bool, true, false, ◌&&◌, nat_lt, List, Option, Some, None, length, Vec, vec_len, vec_capacity}
use Rattle.std.specs.declared.alloc.Global.{Global}
use Rattle.up_events.specs.declared.event.Accepted.{Accepted}

-- all changes, whether the program keeps them, and whether there is room for one more
pub record Listing : Type 0 where
  pub items : List Accepted
  pub keeps : Bool
  pub has_room : Bool

-- whether they are kept
abbrev pub are_kept : Option (Vec Accepted Global) → Bool
are_kept None = false
are_kept (Some list) = true

-- whether the list, if there is one, has room for another item
abbrev pub has_place : Option (Vec Accepted Global) → Bool
has_place None = true
has_place (Some list) = nat_lt (vec_len list) (vec_capacity list)

abbrev pub listing : List Accepted → ℕ → Option (Vec Accepted Global) → Listing
listing all count kept =
    record { items = all; keeps = are_kept kept; has_room = nat_lt (count + 1) (2 ^ 64) && has_place kept }

-- the list, if there is one, has all of them
abbrev pub HasAll : List Accepted → Option (Vec Accepted Global) → Type 0
HasAll all None = Unit {0}
HasAll all (Some list) = list.items ≡ all

-- the count is right, and the list, if there is one, has all changes
pub record IsListed (all : List Accepted) (count : ℕ) (kept : Option (Vec Accepted Global)) : Type 0 where
  pub counted : count ≡ length all
  pub has_all : HasAll all kept
