-- What holds at each place of a list, or of two.
use Rattle.std.specs.Prelude.{ℕ, ◌<◌, List, length, slice_index_or}

-- the fact holds for each place and the item at it
abbrev pub EachAt : {X : Type 0} → (ℕ → X → Type 0) → List X → Type 0
EachAt {X} P xs = (k : ℕ) (d : X) → k < length xs → P k (slice_index_or xs k d)

-- the fact holds for the items at the same place of both lists, at each place of the second
abbrev pub EachPair : {X Y : Type 0} → (X → Y → Type 0) → List X → List Y → Type 0
EachPair {X} {Y} P xs ys = (k : ℕ) (y : Y) → k < length ys → (x : X) → P (slice_index_or xs k x) (slice_index_or ys k y)
