-- Tables in which the first row that holds gives the result.
use Rattle.std.specs.Prelude.{◌≡◌, Bool, List, [], ◌∷◌, Option, Some, None, Result, Err, if◌then◌else◌}

-- a row: whether it holds, and its result
abbrev pub Row : Type 0 → Type 0
Row X = Bool × X

-- the result of the first row that holds
abbrev pub first_that_holds : {X : Type 0} → List (Row X) → Option X
first_that_holds [] = None
first_that_holds (row ∷ rows) = if row.0 then Some row.1 else first_that_holds rows

-- the error of a row, or what holds if there is none
abbrev pub Then : {X E : Type 0} → Option E → Result X E → Type 0 → Type 0
Then (Some found) result more = result ≡ Err found
Then None result more = more
