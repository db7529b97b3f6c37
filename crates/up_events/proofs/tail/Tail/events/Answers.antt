use Rattle.std.proofs.Common.{◌≡◌, ◌+◌, ◌-◌, take, ◌++◌, ◌∷◌, [], sym, ap, ◌∙◌, arith}
use Rattle.up_events.proofs.TailLemmas.{copied}
use Rattle.up_events.proofs.tail.Tail.events.Goals as goal

pub loop-place-preserved : goal.loop-place-preserved
loop-place-preserved c =
    let v = c.args.self.now in
    let i = c.loop-place.invariant in
    let n = c.loop-place.place - v.first in
    let one : n + 1 ≡ c.loop-place.place + 1 - v.first = omega (arith, i.1) in
    let lt = c.loop-place-test.true in (
      i.0,
      omega (arith, i.1),
      omega (arith, lt),
      c.in_ok-push.ensures.items ∙ ap (λ l. l ++ c.event_at.result ∷ []) i.3 ∙ sym (copied v.events n c.event_at.result c.event_at.ensures) ∙ ap (λ m. take m v.events) one,
    )
