-- What a conversation over a book leaves of its history.
use Rattle.std.proofs.Common.{◌≡◌, inl, inr, ℕ, zero, suc, ◌+◌, ◌<◌, ◌≤◌, Bool, Option, Some, None, Result, Ok, Err, [], ◌∷◌, refl, sym, ◌∙◌, subst, ⊎_elim, arith}
use Rattle.std.proofs.lemmas.Bool.{cases_lt}
use Rattle.up_events.specs.Delivery.{IsPrefix}
use Rattle.up_events.specs.declared.event.Accepted.{Accepted}
use Rattle.up_headers.specs.declared.header_fault.HeaderFault.{HeaderFault}
use Rattle.up_headers.specs.declared.request.Request.{Request}
use Rattle.up_headers.specs.declared.request.Request.TheVariants as request
use Rattle.up_machine.specs.State.{State, after}
use Rattle.up_machine.specs.declared.plan.Done.{Done}
use Rattle.up_machine.specs.declared.refusal.Refusal.{Refusal}
use Rattle.up_wire.specs.Device.{Device}
use Rattle.up_wire.specs.declared.taken.Taken.{Taken}
use Rattle.up_message.specs.declared.response.Response.{Response}
use Rattle.up_dispatch.proofs.Prefixes.{prefix_same, prefix_trans}
use Rattle.up_dispatch.proofs.TurnLemmas.{passes_few}
use Rattle.up_dispatch.specs.Answering.{KeeperState}
use Rattle.up_dispatch.specs.ByBook.{GoesOn, IsAnsweredTo, IsDecided, IsOutcome, last_after}
use Rattle.up_dispatch.specs.Keeps.{ClosureAnswers}
use Rattle.up_dispatch.specs.Turn.{Converses, DiskFacts, IsAnswered, IsCutCarriedOut, IsServed, TurnsLeadTo, ConversationState, TakesTurn}
use Rattle.up_dispatch.specs.declared.ended.Ended.{Ended}

-- one message takes one id at most
last_within : (last : ℕ) (asks : Request) → last_after last asks ≤ last + 1
last_within last request.Options = omega arith
last_within last (request.Create new) = omega arith
last_within last (request.Head u) = omega arith
last_within last (request.Patch p) = omega arith
last_within last (request.Delete u) = omega arith
last_within last (request.Get u) = omega arith

-- nothing happened
goes_on_same : (n : ℕ) (old new : KeeperState State ℕ) → new ≡ old → GoesOn n old new
goes_on_same n old new is =
    subst (GoesOn n old) (sym is) (record { lanes = refl; history = prefix_same old.state.journal.accepted; ids = omega arith })

-- and then more
goes_on_then : (m n : ℕ) (old mid new : KeeperState State ℕ) → GoesOn m old mid → GoesOn n mid new → GoesOn (m + n) old new
goes_on_then m n old mid new one two = record {
  lanes = two.lanes ∙ one.lanes;
  history = prefix_trans old.state.journal.accepted mid.state.journal.accepted new.state.journal.accepted one.history two.history;
  ids = omega (arith, one.ids, two.ids);
}

-- fewer messages would do
goes_on_within : (m n : ℕ) (old new : KeeperState State ℕ) → m ≤ n → GoesOn m old new → GoesOn n old new
goes_on_within m n old new le goes = record { lanes = goes.lanes; history = goes.history; ids = omega (arith, goes.ids) }

-- the lanes are the same, and the history has grown at its end
abbrev Grows : State → State → Type 0
Grows old new = (new.journal.lanes ≡ old.journal.lanes) × IsPrefix old.journal.accepted new.journal.accepted

grows_same : (old new : State) → new ≡ old → Grows old new
grows_same old new is = subst (Grows old) (sym is) (refl, prefix_same old.journal.accepted)

grows_after : (old : State) (asks : Request) (id : ℕ) (change : Option Accepted) → Grows old (after old asks id change)
grows_after old asks id None = grows_same old old refl
grows_after old asks id (Some c) = (refl, (c ∷ [], refl))

grows_decided :
    (old new : State) (asks : Request) (id : ℕ) (response : Response) (decision : Result Done Refusal)
    → IsDecided old new asks id response decision → Grows old new
grows_decided old new asks id response (Ok d) is = subst (Grows old) (sym is.1) (grows_after old asks id d.change)
grows_decided old new asks id response (Err refused) is = grows_same old new is.1

grows_answered :
    (gives : ClosureAnswers) (old new : State) (asks : Request) (id : ℕ) (response : Response) → IsOutcome gives old asks id response new
    → Grows old new
grows_answered gives old new asks id response (inl is) = grows_decided old new asks id response is.0 is.2
grows_answered gives old new asks id response (inr none) = grows_same old new none.1

module _ (disk : DiskFacts) (gives : ClosureAnswers) where
  -- a request was answered
  goes_on_answered :
      (old new : KeeperState State ℕ) (asks : Request) (response : Response) → IsAnsweredTo gives old new asks response → GoesOn 1 old new
  goes_on_answered old new asks response is =
      let grown = grows_answered gives old.state new.state asks _ response is.answer in
      record {
        lanes = grown.0;
        history = grown.1;
        ids = omega (arith, is.ids, last_within old.ids asks);
      }

  goes_on_read :
      (old new : KeeperState State ℕ) (response : Response) (read : Result Request HeaderFault)
      → IsAnswered (IsAnsweredTo gives) old new response read → GoesOn 1 old new
  goes_on_read old new response (Err fault) is = goes_on_same 1 old new is.1
  goes_on_read old new response (Ok asks) is = goes_on_answered old new asks response is

  goes_on_cut :
      (old new : KeeperState State ℕ) (read : Result Request HeaderFault) → IsCutCarriedOut (IsAnsweredTo gives) old new read
      → GoesOn 1 old new
  goes_on_cut old new (Err fault) is = goes_on_same 1 old new is
  goes_on_cut old new (Ok request.Options) is = goes_on_same 1 old new is
  goes_on_cut old new (Ok (request.Create made)) is = goes_on_same 1 old new is
  goes_on_cut old new (Ok (request.Head u)) is = goes_on_same 1 old new is
  goes_on_cut old new (Ok (request.Patch p)) is = goes_on_answered old new (request.Patch p) is.0 is.1
  goes_on_cut old new (Ok (request.Delete u)) is = goes_on_same 1 old new is
  goes_on_cut old new (Ok (request.Get u)) is = goes_on_same 1 old new is

  goes_on_served :
      (taken : Taken) (max_size : ℕ) (is_last : Bool) (old new : KeeperState State ℕ) (before after : Device) (ended : Option Ended)
      → IsServed disk (IsAnsweredTo gives) taken max_size is_last old new before after ended → GoesOn 1 old new
  goes_on_served (Taken.Message m) max_size is_last old new before after ended is = goes_on_read old new is.0 is.1.0 is.1.2
  goes_on_served (Taken.Cut m) max_size is_last old new before after ended is = goes_on_cut old new is.0.0 is.0.2
  goes_on_served (Taken.Fault fault bare) max_size is_last old new before after ended is = goes_on_same 1 old new is.0
  goes_on_served Taken.End max_size is_last old new before after ended is = goes_on_same 1 old new is.0

  goes_on_turn :
      (max_size : ℕ) (is_last : Bool) (old new : ConversationState (KeeperState State ℕ)) (ended : Option Ended)
      → TakesTurn disk (IsAnsweredTo gives) max_size is_last old new ended → GoesOn 1 old.keeper_state new.keeper_state
  goes_on_turn max_size is_last old new ended is =
      goes_on_served is.taken max_size is_last old.keeper_state new.keeper_state is.sink new.sink ended is.is_served

  goes_on_passes :
      (max_size turns : ℕ) (old new : ConversationState (KeeperState State ℕ)) → TurnsLeadTo disk (IsAnsweredTo gives) max_size turns old new
      → GoesOn turns old.keeper_state new.keeper_state
  unfolding TurnsLeadTo
  goes_on_passes max_size zero old new is =
      subst (λ (s : ConversationState (KeeperState State ℕ)). GoesOn zero old.keeper_state s.keeper_state) is (goes_on_same zero old.keeper_state old.keeper_state refl)
  goes_on_passes max_size (suc turns) old new is =
      goes_on_within (turns + 1) (suc turns) old.keeper_state new.keeper_state (omega arith)
      (goes_on_then turns 1 old.keeper_state is.0.keeper_state new.keeper_state (goes_on_passes max_size turns old is.0 is.1)
      (goes_on_turn max_size _ is.0 new None is.2))

  pub goes_on_conversed :
      (max_size : ℕ) (old new : ConversationState (KeeperState State ℕ)) (ended : Ended) → Converses disk (IsAnsweredTo gives) max_size old new ended
      → GoesOn 10000 old.keeper_state new.keeper_state
  goes_on_conversed max_size old new ended is =
      let few : is.turns + 1 ≤ 10000 =
      ⊎_elim
      (λ (less : is.turns < 10000). omega arith)
      (λ (many : 10000 ≤ is.turns). absurd (passes_few _ _ max_size is.turns old is.last many is.passes))
      (cases_lt is.turns 10000) in
      goes_on_within (is.turns + 1) 10000 old.keeper_state new.keeper_state few
      (goes_on_then is.turns 1 old.keeper_state is.last.keeper_state new.keeper_state (goes_on_passes max_size is.turns old is.last is.passes)
      (goes_on_turn max_size _ is.last new _ is.ends))
