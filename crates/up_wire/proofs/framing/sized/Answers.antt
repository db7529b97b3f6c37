use Rattle.std.proofs.Common.{◌≡◌, ℕ, ◌<◌, ◌≤◌, true, false, List, leb, Ok, Err, sym, ap, ◌∙◌, arith}
use Rattle.std.specs.Str.Parse.{digits_value}
use Rattle.std.proofs.lemmas.Bool.{cond-true, cond-false, le-leb, lt-leb}
use Rattle.up_wire.specs.declared.wire_fault.WireFault.TheVariants.{BodyTooLarge, BadFraming}
use Rattle.up_wire.specs.declared.framing.Framing.TheVariants.{Sized}
use Rattle.up_message.specs.Digits.{is_digits}
use Rattle.up_wire.specs.Framing.{sized}
use Rattle.up_wire.proofs.framing.sized.Goals as goal

fits : (limit n : ℕ) (value : List ℕ) → is_digits value ≡ true → n ≡ digits_value 10 value → n ≤ limit → Ok (Sized n) ≡ sized limit value
fits limit n value digits same within =
    let test : leb (digits_value 10 value) limit ≡ true = le-leb (digits_value 10 value) limit (omega arith) in
    ap (λ k. Ok (Sized k)) same
    ∙ sym (cond-true (is_digits value) _ (Err BadFraming) digits ∙ cond-true (leb (digits_value 10 value) limit) (Ok (Sized (digits_value 10 value))) (Err BodyTooLarge) test)

exceeds : (limit : ℕ) (value : List ℕ) → is_digits value ≡ true → limit < digits_value 10 value → Err BodyTooLarge ≡ sized limit value
exceeds limit value digits past =
    let test : leb (digits_value 10 value) limit ≡ false = lt-leb (digits_value 10 value) limit past in
    sym (cond-true (is_digits value) _ (Err BadFraming) digits ∙ cond-false (leb (digits_value 10 value) limit) (Ok (Sized (digits_value 10 value))) (Err BodyTooLarge) test)

pub returns-in-Some : goal.returns-in-Some
returns-in-Some c = fits c.args.limit c.in-Some.size c.args.value.now (sym c.if-not-is_digits.ensures) c.in-Some.ensures c.if-size-limit.true

pub returns-in_default : goal.returns-in_default
returns-in_default c = exceeds c.args.limit c.args.value.now (sym c.if-not-is_digits.ensures) (omega (arith, c.in-Some.ensures))

pub returns-in_default-2 : goal.returns-in_default-2
returns-in_default-2 c = exceeds c.args.limit c.args.value.now (sym c.if-not-is_digits.ensures) (omega (arith, c.in_default.ensures, c.ranges.limit.fits))
