-- A conversation over a book, ids, a source and a sink that were borrowed for it.
use Rattle.std.proofs.Common.{◌≡◌, ℕ, sym, subst}
use Rattle.up_machine.specs.State.{State}
use Rattle.up_wire.specs.Device.{Device}
use Rattle.up_dispatch.specs.Answering.{keeper_state}
use Rattle.up_dispatch.specs.ByBook.{IsAnsweredTo}
use Rattle.up_dispatch.specs.Keeps.{ClosureAnswers}
use Rattle.up_dispatch.specs.Turn.{Converses, DiskFacts, conversation_state}
use Rattle.up_dispatch.specs.declared.ended.Ended.{Ended}

-- the same holds of what came back
pub came_back :
    {S I R W : Type 0} (P : S → I → R → W → Type 0) (s s' : S) (i i' : I) (r r' : R) (w w' : W)
    → s' ≡ s → i' ≡ i → r' ≡ r → w' ≡ w → P s i r w → P s' i' r' w'
came_back P s s' i i' r r' w w' p q u v is =
    subst (λ a. P a i' r' w') (sym p) (
    subst (λ a. P s a r' w') (sym q) (
    subst (λ a. P s i a w') (sym u) (
    subst (λ a. P s i r a) (sym v) is)))

-- the book that was lent is the one before, and what there is after is what came back
pub over_book :
    {R W : Type 0} (disk : DiskFacts) (gives : ClosureAnswers) (max_size : ℕ) (source : R → Device) (sink : W → Device)
    (first lent kept final : State) (d e e' : ℕ) (r s s' : R) (w x x' : W) (ended : Ended)
    → lent ≡ first → final ≡ kept → e' ≡ e → s' ≡ s → x' ≡ x
    → Converses disk (IsAnsweredTo gives) max_size (conversation_state (keeper_state lent d) (source r) (sink w)) (conversation_state (keeper_state kept e) (source s) (sink x)) ended
    → Converses disk (IsAnsweredTo gives) max_size (conversation_state (keeper_state first d) (source r) (sink w)) (conversation_state (keeper_state final e') (source s') (sink x')) ended
over_book disk gives max_size source sink first lent kept final d e e' r s s' w x x' ended p q t u v converses =
    subst (λ (b : State). Converses disk (IsAnsweredTo gives) max_size (conversation_state (keeper_state b d) (source r) (sink w)) (conversation_state (keeper_state final e') (source s') (sink x')) ended) p
    (came_back
    (λ b i a c. Converses disk (IsAnsweredTo gives) max_size (conversation_state (keeper_state lent d) (source r) (sink w)) (conversation_state (keeper_state b i) (source a) (sink c)) ended)
    kept final e e' s s' x x' q t u v converses)
