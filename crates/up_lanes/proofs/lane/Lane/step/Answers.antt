use Rattle.std.proofs.lemmas.Grind.{common_steps}
use Rattle.std.proofs.Common.{◌≡◌, [], ◌∷◌, ◌++◌, false, length, length-append, sym, ap, ◌∙◌, subst, arith, rules}
use Rattle.up_events.specs.Log.{IsLawful}
use Rattle.up_queue.specs.declared.item.Item.TheVariants as item
use Rattle.up_queue.specs.Line.{items_if}
use Rattle.up_lanes.proofs.Steps.{items_next, handed_lawful, counted_next}
use Rattle.up_lanes.proofs.lane.Lane.step.Goals as goal

pub invariant_of-self-in-Event : goal.invariant_of-self-in-Event
invariant_of-self-in-Event g c =
    let handed = g.H.PostHook.handed c.self.inside.hook in
    let event = c.in-Event.event in
    let before = c.self.inside.take_end.taken in
    let after = c.take.new.self.taken in
    let now : g.H.PostHook.handed c.hand.new.self ≡ handed ++ event ∷ [] = c.hand.ensures.added ∙ ap (λ l. l ++ event ∷ []) c.ready.ensures.same in
    let was : before ≡ items_if handed false = c.self.invariant.kept ∙ ap (items_if handed) c.if-self.false in
    let more : after ≡ before ++ item.Event event ∷ [] = ap (λ e. e.taken) c.in-Some.ensures.taken ∙ ap (λ i. before ++ i ∷ []) c.in-Event.is in
    record {
      sound = c.hand.ensures.sound;
      kept =
          more ∙ ap (λ l. l ++ item.Event event ∷ []) was ∙ items_next handed event ∙ ap (λ l. items_if l false) (sym now)
          ∙ ap (items_if (g.H.PostHook.handed c.hand.new.self)) (sym c.if-self.false);
      lawful = subst IsLawful (sym now) (handed_lawful after before handed event was more c.take.ensures.orderly);
      counted = counted_next _ (length before) (length after) c.self.invariant.counted (ap length more ∙ length-append before (item.Event event ∷ []));
      settled = (λ e. cc);
    }

pub returns-in-Event-clause-lawful : goal.returns-in-Event-clause-lawful
returns-in-Event-clause-lawful g c = (invariant_of-self-in-Event g c).lawful

pub returns-in-Event-clause-step : goal.returns-in-Event-clause-step
returns-in-Event-clause-step g c = search rules

pub invariant_of-self-in-End : goal.invariant_of-self-in-End
invariant_of-self-in-End g c = grind (arith, common_steps)
