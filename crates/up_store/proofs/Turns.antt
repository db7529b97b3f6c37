-- A turn of a line.
use Rattle.std.proofs.Common.{◌≡◌, ◌<◌, ◌-◌, ℕ, zero, suc, ap, arith}
use Rattle.up_store.specs.Lines.{Progress, has_had_turn, has_passed, has_taken, one_more}

passed : (line : Progress) (lost : ℕ) → 0 < lost → has_passed line lost ≡ record line { done = one_more line.done; lost = lost - 1 }
passed line zero some = absurd (omega (arith, some))
passed line (suc lost) some =
    let is : lost ≡ suc lost - 1 = omega arith in ap (λ (n : ℕ). record line { done = one_more line.done; lost = n }) is

taken : (line : Progress) (count : ℕ) → count ≡ 0 → 0 < line.lost → has_taken line count ≡ record line { done = one_more line.done; lost = line.lost - 1 }
taken line zero none some = passed line line.lost some
taken line (suc count) none some = absurd (omega (arith, none))

-- a change that could not be written had its turn
pub passes : (line : Progress) → line.count ≡ 0 → 0 < line.lost → has_had_turn line ≡ record line { done = one_more line.done; lost = line.lost - 1 }
passes line none some = taken line line.count none some
