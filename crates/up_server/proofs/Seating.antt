-- The count of the only seat is what was accepted.
use Rattle.std.proofs.Common.{◌≡◌, ℕ, ◌∷◌, [], List, sum, sym, ap, ◌∙◌, subst, arith}
use Rattle.up_dispatch.specs.Keeps.{ClosureAnswers}
use Rattle.up_dispatch.specs.declared.ended.Ended.{Ended}
use Rattle.up_queue.specs.EndViews.{QueueId}
use Rattle.up_server.specs.Seats.{IsServedFrom}
use Rattle.up_wire.specs.Device.{Device}

pub only_seat : (seats : List ℕ) (count : ℕ) → seats ≡ count ∷ [] → sum seats ≡ count
only_seat seats count p = ap sum p ∙ omega arith

pub served_so : (queue : ℕ → QueueId) (gives : ClosureAnswers) (lanes own_lanes size own_size first last none count : ℕ) (i j k l : Device) (ended : Ended)
    → lanes ≡ own_lanes → size ≡ own_size → first ≡ none → last ≡ count
    → IsServedFrom queue own_lanes gives own_size first last i j k l ended → IsServedFrom queue lanes gives size none count i j k l ended
served_so queue gives lanes own_lanes size own_size first last none count i j k l ended p q r s served =
    subst (λ n. IsServedFrom queue n gives size none count i j k l ended) (sym p) (
    subst (λ n. IsServedFrom queue own_lanes gives n none count i j k l ended) (sym q) (
    subst (λ n. IsServedFrom queue own_lanes gives own_size n count i j k l ended) r (
    subst (λ n. IsServedFrom queue own_lanes gives own_size first n i j k l ended) s served)))

-- what holds of three values holds of what is equal to them
pub come_back : {X Y Z : Type 0} (P : X → Y → Z → Type 0) (x x' : X) (y y' : Y) (z z' : Z) → x' ≡ x → y' ≡ y → z' ≡ z → P x y z → P x' y' z'
come_back P x x' y y' z z' p q r is = subst (λ a. P a y' z') (sym p) (subst (λ b. P x b z') (sym q) (subst (λ c. P x y c) (sym r) is))
