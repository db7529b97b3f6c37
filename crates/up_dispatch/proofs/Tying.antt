-- A book behind the board's lock, which follows a log.
use Rattle.std.proofs.Common.{◌≡◌, ◌≢◌, inl, inr, ℕ, ◌+◌, Bool, true, false, not, is_err, List, [], ◌∷◌, ◌++◌, length, Result, Ok, Err, refl, ap, subst, sym, ◌∙◌}
use Rattle.std.proofs.lemmas.List.{length-append}
use Rattle.up_commits.specs.Follows.{BooksFollow, BooksPassOver, Following, IsBookOf, followed_by, following}
use Rattle.up_headers.specs.declared.request.Request.{Request}
use Rattle.up_log.specs.declared.entry.Entry.{Entry}
use Rattle.up_machine.specs.Decision.{IsExpectedOrNoMemory, decide}
use Rattle.up_machine.specs.State.{State}
use Rattle.up_machine.specs.declared.plan.Done.{Done}
use Rattle.up_machine.specs.declared.refusal.Refusal.{Refusal}
use Rattle.up_machine.specs.declared.refusal.Refusal.TheVariants.{NoMemory}
use Rattle.up_replay.specs.Replay.{asked_of, carried, replayed_one}
use Rattle.up_dispatch.specs.Commits.{IsMadeOrUnchanged}
use Rattle.up_dispatch.specs.BoardView.{BoardView}

same_after : (flags : List Bool) (entries : List Entry) (c : Bool) (entry : Entry) → length flags ≡ length entries → length (flags ++ c ∷ []) ≡ length (entries ++ entry ∷ [])
same_after flags entries c entry same =
    length-append flags (c ∷ []) ∙ (ap (λ (n : ℕ). n + 1) same ∙ sym (length-append entries (entry ∷ [])))

left : (old new : BoardView) (before after_it : ℕ) (entry : Entry) (result : Result Done Refusal) → IsMadeOrUnchanged old new before after_it entry.request entry.id result → new.book ≡ carried old.book entry result
left old new before after_it entry (Ok done) leaves = leaves.book
left old new before after_it entry (Err refusal) leaves = ap (λ (s : BoardView). s.book) leaves.0

-- but for want of memory the book is as a replay of the entry leaves it
carried_is : (old new : BoardView) (before after_it : ℕ) (entry : Entry) (result : Result Done Refusal)
    → IsExpectedOrNoMemory result (decide old.book entry.request entry.id (asked_of entry.consent)) → IsMadeOrUnchanged old new before after_it entry.request entry.id result
    → result ≢ Err NoMemory → new.book ≡ replayed_one old.book entry
carried_is old new before after_it entry result answer leaves decided = elim answer [
  | inl is ↦ left old new before after_it entry result leaves ∙ ap (carried old.book entry) is
  | inr wants ↦ absurd (decided wants.0)
]

passed_is : (old new : BoardView) (before after_it : ℕ) (entry : Entry) (result : Result Done Refusal) → IsMadeOrUnchanged old new before after_it entry.request entry.id result → result ≡ Err NoMemory → new.book ≡ old.book
passed_is old new before after_it entry result leaves wants = left old new before after_it entry result leaves ∙ ap (carried old.book entry) wants

-- an entry that was begun with and ended
pub has_ended : (f begun g : Following) (entry : Entry) (is_carried : Bool) → begun ≡ following (f.entries ++ entry ∷ []) f.carried
    → g ≡ following begun.entries (begun.carried ++ is_carried ∷ []) → g ≡ followed_by f entry is_carried
has_ended f begun g entry is_carried begins ends = ends ∙ ap (λ (b : Following). following b.entries (b.carried ++ is_carried ∷ [])) begins

pub ended : (f g : Following) (entry : Entry) (is_carried : Bool) → length f.carried ≡ length f.entries → g ≡ followed_by f entry is_carried
    → length g.carried ≡ length g.entries
ended f g entry is_carried whole follows =
    ap (λ (h : Following). length h.carried) follows
    ∙ (same_after f.carried f.entries is_carried entry whole ∙ sym (ap (λ (h : Following). length h.entries) follows))

-- an entry more
pub tied_on : BooksFollow → BooksPassOver → (lanes max_size : ℕ) (f : Following) (old new : BoardView) (before after_it : ℕ) (entry : Entry) (result : Result Done Refusal) (wants : Bool)
    → length f.carried ≡ length f.entries → IsBookOf lanes max_size f old.book → old.book.closed ≡ false
    → IsExpectedOrNoMemory result (decide old.book entry.request entry.id (asked_of entry.consent)) → IsMadeOrUnchanged old new before after_it entry.request entry.id result
    → (wants ≡ true → result ≡ Err NoMemory) → (result ≡ Err NoMemory → wants ≡ true) → IsBookOf lanes max_size (followed_by f entry (not wants)) new.book
tied_on follow pass lanes max_size f old new before after_it entry result false same is going answer leaves wanting wanted =
    follow lanes max_size f entry old.book new.book same is going (carried_is old new before after_it entry result answer leaves (λ memory. absurd (cc (wanted memory))))
tied_on follow pass lanes max_size f old new before after_it entry result true same is going answer leaves wanting wanted =
    subst (λ (s : State). IsBookOf lanes max_size (followed_by f entry false) s) (sym (passed_is old new before after_it entry result leaves (wanting refl))) (pass lanes max_size f entry old.book same is)

-- what is refused leaves the book as it is
pub undone : (old new : BoardView) (before after_it : ℕ) (request : Request) (id : ℕ) (result : Result Done Refusal) → IsMadeOrUnchanged old new before after_it request id result → is_err result ≡ true → new.book ≡ old.book
undone old new before after_it request id (Ok done) leaves refused = absurd (cc (refused))
undone old new before after_it request id (Err refusal) leaves refused = ap (λ (s : BoardView). s.book) leaves.0
