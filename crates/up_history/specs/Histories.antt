-- Histories and places in them, as contracts describe them.
use Rattle.std.specs.Prelude.{ℕ, ◌≡◌, ◌<◌, ◌≤◌, List, [], length, take, Option, Some, None, slice_get}
use mathlib.Core.List.{IsPrefix}

-- a place in a history: its number, the entry at the place, and the entries before it
pub record Place (E : Type 0) : Type 0 where
  pub number : ℕ
  pub entry : Option E
  pub before : List E

-- the place with this number in a front
abbrev pub place_in : {E : Type 0} → List E → ℕ → Place E
place_in front number = record { number = number; entry = slice_get front number; before = take number front }

-- xs is a prefix of ys, and ys is longer
abbrev pub IsLonger : {E : Type 0} → List E → List E → Type 0
IsLonger xs ys = IsPrefix xs ys × (length xs < length ys)

-- the first `count` entries of a front; none if there is no front
abbrev pub first_entries : {E : Type 0} → Option (List E) → ℕ → List E
first_entries None count = []
first_entries (Some front) count = take count front

-- the front has at least `count` entries
abbrev pub HasFirst : {E : Type 0} → Option (List E) → ℕ → Type 0
HasFirst None count = count ≡ 0
HasFirst (Some front) count = count ≤ length front
