-- What was handed over is lawful, as what was taken is orderly.
use Rattle.std.proofs.Common.{◌≡◌, ℕ, ◌+◌, ◌%◌, ◌^◌, arith, List, [], ◌∷◌, ◌++◌, false, sym, ap, ◌∙◌, subst, append-nil}
use Rattle.std.proofs.lemmas.List.{map-append}
use Rattle.up_events.specs.Log.{IsLawful}
use Rattle.up_events.specs.declared.event.Event.{Event}
use Rattle.up_queue.specs.declared.item.Item.{Item}
use Rattle.up_queue.specs.declared.item.Item.TheVariants as item
use Rattle.up_queue.specs.Line.{items_of, items_if, IsOrderly}
use Rattle.up_queue.proofs.Orders.{lawful_events}

pub items_next : (handed : List Event) (e : Event) → items_if handed false ++ item.Event e ∷ [] ≡ items_if (handed ++ e ∷ []) false
items_next handed e =
    ap (λ l. l ++ item.Event e ∷ []) (append-nil (items_of handed)) ∙ sym (append-nil (items_of (handed ++ e ∷ [])) ∙ map-append (λ (e : Event). item.Event e) handed (e ∷ []))

pub handed_lawful : (taken before : List Item) (handed : List Event) (e : Event) → before ≡ items_if handed false → taken ≡ before ++ item.Event e ∷ [] → IsOrderly taken → IsLawful (handed ++ e ∷ [])
handed_lawful taken before handed e was more o =
    lawful_events (handed ++ e ∷ []) false (subst IsOrderly (more ∙ ap (λ l. l ++ item.Event e ∷ []) was ∙ items_next handed e) o)

pub counted_next : (count a b : ℕ) → count ≡ a % 2 ^ 64 → b ≡ a + 1 → (count + 1) % 2 ^ 64 ≡ b % 2 ^ 64
counted_next count a b was more = omega arith
