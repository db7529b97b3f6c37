use Rattle.std.proofs.Common.{◌≡◌, ℕ, List, ◌<◌, ◌+◌, ◌*◌, ◌^◌, ◌≤◌, true, get_or, take, length, arith, IsTrue, nat_lt}
use Rattle.std.specs.Char.{is_ascii_digit, digit_value}
use Rattle.std.specs.Str.Parse.{digits_value}
use Rattle.std.proofs.lemmas.Bool.{and_parts}
use Rattle.std.proofs.lemmas.Bool.Decides.{nat_tests}
use Rattle.std.proofs.lemmas.Int.Digits.{digits_value_more}
use Rattle.std.proofs.lemmas.List.Elements.{All-get_or}
use Rattle.std.proofs.lemmas.List.Sums.{AllPass-from_list_all}
use Rattle.std.proofs.lemmas.Str.Parse.{digits_value-take-le}
use Rattle.std.specs.List.{list_all}
use Rattle.up_message.specs.Digits.{is_digits}
use Rattle.up_message.proofs.digits.number.Goals as goal

-- where the first digits do not fit, the whole does not
too_large : (ds : List ℕ) (i : ℕ) → i < length ds → 2 ^ 64 ≤ digits_value 10 (take i ds) * 10 + digit_value (get_or ds i 0) → 2 ^ 64 ≤ digits_value 10 ds
too_large ds i inside large =
    omega (arith, digits_value_more 10 ds i inside, digits_value-take-le 10 ds (i + 1) (omega arith))

-- each is a digit
passes_at : (ds : List ℕ) (i : ℕ) → i < length ds → IsTrue (is_digits ds) → is_ascii_digit (get_or ds i 0) ≡ true
passes_at ds i inside all =
    All-get_or (λ b. is_ascii_digit b ≡ true) ds i 0 inside
    (AllPass-from_list_all is_ascii_digit ds (and_parts (nat_lt 0 (length ds)) (list_all is_ascii_digit ds) all).1)

pub returns-in_err-checked_mul : goal.returns-in_err-checked_mul
returns-in_err-checked_mul c =
    rw c.from_residual.ensures (too_large _ _ c.loop-b-test.true (omega (arith, c.in_err-checked_mul.ensures, c.loop-b.invariant.0)))

pub returns-in_err-number : goal.returns-in_err-number
returns-in_err-number c =
    let passes = passes_at c.args.digits.now c.loop-b.b-index c.loop-b-test.true c.requires in
    let digit : digit_value (get_or c.args.digits.now c.loop-b.b-index 0) ≡ c.from.result = grind (arith, nat_tests) in
    rw c.from_residual-in_err-number.ensures (too_large _ _ c.loop-b-test.true (omega (arith, c.in_err-number.ensures, c.in_ok-checked_mul.ensures.1, c.loop-b.invariant.0)))

pub loop-b-preserved : goal.loop-b-preserved
loop-b-preserved c =
    let passes = passes_at c.args.digits.now c.loop-b.b-index c.loop-b-test.true c.requires in
    let digit : digit_value (get_or c.args.digits.now c.loop-b.b-index 0) ≡ c.from.result = grind (arith, nat_tests) in (
      omega (arith, digits_value_more 10 c.args.digits.now _ c.loop-b-test.true, c.in_ok-number.ensures.1, c.in_ok-checked_mul.ensures.1, c.loop-b.invariant.0),
      omega (arith, c.in_ok-number.ensures.0, c.in_ok-number.ensures.1),
    )
