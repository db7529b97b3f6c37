-- What stands at the front of a list, after a part of it was written.
use Rattle.std.proofs.Common.{◌≡◌, ℕ, ◌+◌, ◌≤◌, List, ◌++◌, length, take}
use Rattle.std.proofs.Math.Seq.{take-append-add}
use Rattle.std.proofs.lemmas.List.{take-append-le, length-take-le}

-- r bytes were written behind the first f
pub take_behind : (f r : ℕ) (xs written rest run : List ℕ) → f ≤ length xs → take r written ≡ run → r ≤ length written
    → take (f + r) (take f xs ++ (written ++ rest)) ≡ take f xs ++ run
take_behind f r xs written rest run within is_run fits =
    let l : length (take f xs) ≡ f = length-take-le f xs within in
    let a = take-append-add (take f xs) (written ++ rest) r in
    let b = take-append-le r written rest fits in
    cc
