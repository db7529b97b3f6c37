-- Counted ids.
use Rattle.std.specs.Prelude.{◌≡◌, ℕ, ◌+◌, ◌-◌, ◌^◌, min}

-- the number after this one; the greatest number that an id can be stays the same
abbrev pub number_after : ℕ → ℕ
number_after last = min (last + 1) (2 ^ 128 - 1)

-- the id is the number after the last one, and is the last one from then on
abbrev pub CountsIds : ℕ → ℕ → ℕ → Type 0
CountsIds last id new = (id ≡ number_after last) × (new ≡ id)
