-- A beginning of an orderly list is orderly.
use Rattle.std.proofs.Common.{◌≡◌, ◌<◌, ℕ, suc, List, [], ◌∷◌, ◌++◌, length, take, drop, get_or, sym, refl, ap, subst}
use Rattle.std.proofs.Math.Seq.{take-suc}
use Rattle.std.proofs.lemmas.List.{take-append-drop}
use Rattle.up_events.specs.Log.{IsLawful}
use Rattle.up_events.proofs.FrontLemmas.{fronts_lawful}
use Rattle.up_queue.specs.declared.item.Item.{Item}
use Rattle.up_queue.specs.declared.item.Item.TheVariants as item
use Rattle.up_queue.specs.Line.{events_among, EndsLast, IsOrderly}

pub events_of-append : (xs ys : List Item) → events_among (xs ++ ys) ≡ events_among xs ++ events_among ys
events_of-append [] ys = refl
events_of-append (item.Event e ∷ xs) ys = ap (λ l. e ∷ l) (events_of-append xs ys)
events_of-append (item.End ∷ xs) ys = events_of-append xs ys

nothing_before : (xs ys : List Item) → xs ++ ys ≡ [] → xs ≡ []
nothing_before [] ys h = refl
nothing_before (x ∷ xs) ys h = cc

pub ends_last_before : (xs ys : List Item) → EndsLast (xs ++ ys) → EndsLast xs
ends_last_before [] ys h = tt
ends_last_before (item.Event e ∷ xs) ys h = ends_last_before xs ys h
ends_last_before (item.End ∷ xs) ys h = nothing_before xs ys h

pub orderly_before : (xs ys : List Item) → IsOrderly (xs ++ ys) → IsOrderly xs
orderly_before xs ys o = record {
  lawful = fronts_lawful (events_among xs) (events_among ys) (subst IsLawful (events_of-append xs ys) o.lawful);
  ends_last = ends_last_before xs ys o.ends_last;
}

-- so is what stands up to a place
pub orderly_upto : (items : List Item) (place : ℕ) (d : Item) → IsOrderly items → place < length items → IsOrderly (take place items ++ get_or items place d ∷ [])
orderly_upto items place d o within =
    subst IsOrderly (take-suc items place d within)
    (orderly_before (take (suc place) items) (drop (suc place) items) (subst IsOrderly (sym (take-append-drop (suc place) items)) o))
