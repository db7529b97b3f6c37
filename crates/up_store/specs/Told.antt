-- Which lines were printed about whether changes are stored.
use Rattle.std.specs.Prelude.{ℕ, ◌+◌, ◌≤◌, Bool, true, false, IfSome}
use Rattle.up_store.specs.declared.told.Storing.{Storing}
use Rattle.up_store.specs.declared.told.Storing.TheVariants.{Stored, Refused}
use Rattle.up_store.specs.declared.told.Told.{Told}

-- whether changes are refused
abbrev pub is_refusal : Storing → Bool
is_refusal Stored = false
is_refusal (Refused fault) = true

-- the last line was printed at least a second ago, or none was printed
abbrev pub IsApart : Told → ℕ → Type 0
IsApart told now = IfSome told.at (λ last. last + 1000 ≤ now)
