use Rattle.std.proofs.Common.{◌≡◌, ◌++◌, drop, refl, sym, ap, ◌∙◌, arith}
use Rattle.std.proofs.Math.ListN.{length-set}
use Rattle.up_events.specs.IdText.{hex_digits}
use Rattle.up_events.proofs.HistoryLemmas.{append_nil}
use Rattle.up_events.proofs.IdLemmas.{next_digit, no_digits}
use Rattle.up_events.proofs.id.hex_text.Goals as goal

pub loop-places-init : goal.loop-places-init
loop-places-init c = (omega arith, refl, append_nil _)

pub loop-places-preserved : goal.loop-places-preserved
loop-places-preserved c =
    let i = c.loop-places.invariant in
    (omega arith, length-set c.loop-places.text _ _ ∙ i.1, next_digit c.loop-places.text c.loop-places.places c.loop-places.rest c.hex_digit.result (omega arith) (omega arith) c.hex_digit.ensures ∙ i.2)

pub returns : goal.returns
returns c = let e : c.loop-places.places ≡ 0 = omega arith in sym (no_digits c.loop-places.rest c.loop-places.text) ∙ ap (λ p. hex_digits p c.loop-places.rest ++ drop p c.loop-places.text) (sym e) ∙ c.loop-places.invariant.2
