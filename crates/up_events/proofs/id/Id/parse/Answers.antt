use Rattle.std.proofs.Common.{◌<◌, length, sym, ap, ◌∙◌, get_or, arith, lit<}
use Rattle.up_events.specs.IdText.{hex_digit}
use Rattle.up_events.proofs.IdLemmas.{digits_length, digit_at, digit_read, no_digit_read, power_step, power_within}
use Rattle.up_events.proofs.id.Id.parse.Goals as goal

pub returns-then-text-ne32-clause-none : goal.returns-then-text-ne32-clause-none
returns-then-text-ne32-clause-none c = λ id is. c.if-text-ne32.true (ap length is ∙ digits_length 32 id)

pub loop-byte-init : goal.loop-byte-init
loop-byte-init c = (lit< tt, no_digit_read)

pub overflow_mul-number : goal.overflow_mul-number
overflow_mul-number c = omega (arith, power_within c.loop-byte.byte-index c.loop-byte.number (omega arith) c.loop-byte.invariant.0)

pub overflow_add-number : goal.overflow_add-number
overflow_add-number c = omega (arith, c.in_ok-digit_value.ensures.some, power_within c.loop-byte.byte-index c.loop-byte.number (omega arith) c.loop-byte.invariant.0)

pub returns-in_err-digit_value-clause-none : goal.returns-in_err-digit_value-clause-none
returns-in_err-digit_value-clause-none c =
    rw c.from_residual.ensures (λ id is.
    let at = digit_at 32 id c.loop-byte.byte-index (omega arith) in
    c.in_err-digit_value.ensures.none at.0 at.1 (ap (λ t. get_or t c.loop-byte.byte-index 0) is ∙ at.2))

pub loop-byte-preserved : goal.loop-byte-preserved
loop-byte-preserved c =
    let small : c.from.result < 16 = omega (arith, c.in_ok-digit_value.ensures.some) in (
      power_step c.loop-byte.byte-index c.loop-byte.number c.from.result c.loop-byte.invariant.0 small,
      digit_read c.args.text.now c.loop-byte.byte-index c.loop-byte.number c.from.result (omega arith) small (c.in_ok-digit_value.ensures.some.1 ∙ ap hex_digit (sym c.from.ensures)) c.loop-byte.invariant.1,
    )
