-- Bytes in pieces.
use Rattle.std.specs.Prelude.{ℕ, List, ◌++◌, flat_map}

-- the pieces, one after another
abbrev pub pieced : List (List ℕ) → List ℕ
pieced pieces = flat_map (λ piece. piece) pieces

-- the pieces, one after another, and then the last
abbrev pub pieced_then : List (List ℕ) → List ℕ → List ℕ
pieced_then front last = pieced front ++ last
