-- The last head holds.
use Rattle.std.proofs.Common.{◌≡◌, ℕ, List, [], ◌∷◌, ◌++◌, map, Option, Some, None, refl, ap, ◌∙◌}
use Rattle.up_log.specs.Reading.{◌>>=◌}
use Rattle.up_log.specs.Held.{batch_back}
use Rattle.up_log.specs.declared.entry.Entry.{Entry}
use Rattle.up_places.specs.Places.{Content}
use Rattle.up_compact.specs.Heads.{LastHeadHolds, batch_of, head_after, head_of, ids_of, entry_with_number, numbers_in}
use Rattle.up_compact.specs.declared.head.Head.{Head}

ids_again : (numbers : List ℕ) → ids_of (map entry_with_number numbers) ≡ numbers
ids_again [] = refl
ids_again (n ∷ numbers) = ap (λ (l : List ℕ). n ∷ l) (ids_again numbers)

head_again : (head : Head) → head_of (ids_of (batch_of head)) ≡ Some head
head_again head = ap head_of (ids_again (numbers_in head))

-- a batch has the same ids when it is read again
pub ids_back : (content : Content) (batch : List Entry) → ids_of (batch_back content batch) ≡ ids_of batch
ids_back content [] = refl
ids_back content (entry ∷ batch) = ap (λ (l : List ℕ). entry.id ∷ l) (ids_back content batch)

-- a batch that says this head comes first
pub step : (head next : Head) (batch : List Entry) (batches : List (List Entry)) → head_of (ids_of batch) ≡ Some next → head_after head (batch ∷ batches) ≡ head_after next batches
step head next batch batches says = ap (λ (o : Option Head). o >>= (λ (h : Head). head_after h batches)) says

-- some head is said by the first batch
first_says : (o : Option Head) (was : Head) (batches : List (List Entry)) → (o >>= (λ (h : Head). head_after h batches)) ≡ Some was → (next : Head) × (o ≡ Some next) × (head_after next batches ≡ Some was)
first_says None was batches e = absurd (cc)
first_says (Some next) was batches e = (next, refl, e)

pub last_holds : LastHeadHolds
last_holds [] start was head e = step start head (batch_of head) [] (head_again head)
last_holds (batch ∷ batches) start was head e =
    let first = first_says (head_of (ids_of batch)) was batches e in
    step start first.0 batch (batches ++ batch_of head ∷ []) first.1 ∙ last_holds batches first.0 was head first.2
