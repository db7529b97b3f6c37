-- What came of a change that is an entry of the log.
use Rattle.std.proofs.Common.{◌≡◌, ◌++◌, ◌∷◌, [], ℕ, List, inl, inr, Option, Some, None, IfSome, IfNone, Result, Err, subst, sym}
use mathlib.Core.List.{IsPrefix}
use Rattle.up_headers.specs.declared.request.Request.{Request}
use Rattle.up_log.specs.declared.entry.Entry.{Entry}
use Rattle.up_machine.specs.declared.plan.Asked.{Asked}
use Rattle.up_machine.specs.declared.plan.Done.{Done}
use Rattle.up_machine.specs.declared.refusal.Refusal.{Refusal}
use Rattle.up_machine.specs.declared.refusal.Refusal.TheVariants.{NoMemory}
use Rattle.up_queue.specs.EndViews.{QueueId}
use Rattle.up_dispatch.specs.Keepers.{seat_state}
use Rattle.up_dispatch.specs.Tied.{CommitsAfter}
use Rattle.up_store.specs.StoredCommits.{Says, StoredCommits}

pub in_turn : (queue : ℕ → QueueId) (lanes max_size first count : ℕ) (had known before : List Entry) (entry : Entry) (request : Request) (id : ℕ) (asked : Asked) (decided : Option (Result Done Refusal)) (answer : Result Done Refusal)
    → Says entry request id asked
    → IfSome decided (λ r. IsPrefix had before × (known ≡ before ++ entry ∷ [])) → IfSome decided (λ r. CommitsAfter queue lanes max_size before first entry count r)
    → IfNone decided ((count ≡ first) × (known ≡ had))
    → IfSome decided (λ r. answer ≡ r) → IfNone decided (answer ≡ Err NoMemory) → StoredCommits queue lanes max_size (seat_state first had) request id asked (seat_state count known) answer
in_turn queue lanes max_size first count had known before entry request id asked (Some r) answer says follows some none same refused =
    inl (entry, before, says, follows.0, follows.1, subst (λ (x : Result Done Refusal). CommitsAfter queue lanes max_size before first entry count x) (sym same) some)
in_turn queue lanes max_size first count had known before entry request id asked None answer says follows some none same refused =
    inr (inr (refused, cc (none.0, none.1)))
