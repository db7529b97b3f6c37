-- Books that go on where they ended.
use Rattle.std.proofs.Common.{◌≡◌, ℕ, List, [], ◌∷◌, ◌++◌, Option, Some, None, Result, Ok, Err, refl, sym, ◌∙◌, ap, reverse, subst, append_assoc, append-nil}
use Rattle.std.proofs.lemmas.List.{reverse-append}
use Rattle.std.proofs.lemmas.List.Concat.{flat_map-cons}
use Rattle.up_events.specs.Delivery.{IsPrefix}
use Rattle.up_events.specs.Log.{added_to, LogsGrowAtTheirEnd}
use Rattle.up_events.specs.Records.{Records, lane_log}
use Rattle.up_events.specs.declared.event.Accepted.{Accepted}
use Rattle.up_log.specs.declared.entry.Entry.{Entry}
use Rattle.up_machine.specs.Decision.{decide}
use Rattle.up_machine.specs.State.{State, after}
use Rattle.up_machine.specs.declared.plan.Done.{Done}
use Rattle.up_machine.specs.declared.refusal.Refusal.{Refusal}
use Rattle.up_replay.specs.Replay.{asked_of, carried, entries_of, replayed, replayed_one, ReplaysGoOn, ChangesBeginAlike, LogsBeginAlike}

prefix_trans : {X : Type 0} (xs ys zs : List X) → IsPrefix xs ys → IsPrefix ys zs → IsPrefix xs zs
prefix_trans xs ys zs p q = (p.0 ++ q.0, q.1 ∙ ap (λ l. l ++ q.0) p.1 ∙ append_assoc xs p.0 q.0)

pub go_on : ReplaysGoOn
unfolding replayed
go_on s [] more = refl
go_on s (entry ∷ first) more = go_on (replayed_one s entry) first more

-- what one entry makes of a journal
record Grows (old new : Records) : Type 0 where
  lanes : new.lanes ≡ old.lanes
  changes : IsPrefix old.accepted new.accepted
  logs : (lane : ℕ) → IsPrefix (lane_log old lane) (lane_log new lane)

grows_same : (j : Records) → Grows j j
grows_same j = record { lanes = refl; changes = ([], sym (append-nil j.accepted)); logs = λ lane. ([], sym (append-nil (lane_log j lane))) }

grows_trans : (a b c : Records) → Grows a b → Grows b c → Grows a c
grows_trans a b c p q = record {
  lanes = q.lanes ∙ p.lanes;
  changes = prefix_trans a.accepted b.accepted c.accepted p.changes q.changes;
  logs = λ lane. prefix_trans (lane_log a lane) (lane_log b lane) (lane_log c lane) (p.logs lane) (q.logs lane);
}

grows_after : LogsGrowAtTheirEnd → (s : State) (entry : Entry) (change : Option Accepted) → Grows s.journal (after s entry.request entry.id change).journal
grows_after grow s entry None = grows_same s.journal
grows_after grow s entry (Some change) = record {
  lanes = refl;
  changes = (change ∷ [], refl);
  logs = λ lane. (added_to s.journal.lanes lane s.journal.accepted change, grow s.journal.lanes lane s.journal.accepted change);
}

grows_carried : LogsGrowAtTheirEnd → (s : State) (entry : Entry) (decision : Result Done Refusal) → Grows s.journal (carried s entry decision).journal
grows_carried grow s entry (Ok done) = grows_after grow s entry done.change
grows_carried grow s entry (Err refused) = grows_same s.journal

grows : LogsGrowAtTheirEnd → (s : State) (entries : List Entry) → Grows s.journal (replayed s entries).journal
unfolding replayed
grows grow s [] = grows_same s.journal
grows grow s (entry ∷ entries) =
    grows_trans s.journal (replayed_one s entry).journal (replayed (replayed_one s entry) entries).journal
    (grows_carried grow s entry (decide s entry.request entry.id (asked_of entry.consent))) (grows grow (replayed_one s entry) entries)

pub changes_begin : LogsGrowAtTheirEnd → ChangesBeginAlike
changes_begin grow s first more = subst (λ (t : State). IsPrefix (replayed s first).journal.accepted t.journal.accepted) (sym (go_on s first more)) (grows grow (replayed s first) more).changes

pub logs_begin : LogsGrowAtTheirEnd → LogsBeginAlike
logs_begin grow s first more lane = subst (λ (t : State). IsPrefix (lane_log (replayed s first).journal lane) (lane_log t.journal lane)) (sym (go_on s first more)) ((grows grow (replayed s first) more).logs lane)

-- the entries of a list that is kept the other way round, taken from its end
pub replay_step : (s t : State) (rest after : List Entry) (entry : Entry) (total : State) → rest ≡ after ++ entry ∷ [] → t ≡ replayed_one s entry → replayed s (reverse rest) ≡ total → replayed t (reverse after) ≡ total
unfolding replayed
replay_step s t rest after entry total is same so_far =
    ap (λ (x : State). replayed x (reverse after)) same ∙ sym (ap (replayed s) (ap reverse is ∙ reverse-append after (entry ∷ []))) ∙ so_far

pub replay_end : (s : State) (rest : List Entry) (total : State) → rest ≡ [] → replayed s (reverse rest) ≡ total → s ≡ total
unfolding replayed
replay_end s rest total is so_far = sym (ap (replayed s) (ap reverse is)) ∙ so_far

-- what is left of the batches, once one was committed
pub restore_step : (s t : State) (left others : List (List Entry)) (batch : List Entry) (total : State) → left ≡ batch ∷ others → t ≡ replayed s batch → replayed s (entries_of left) ≡ total → replayed t (entries_of others) ≡ total
restore_step s t left others batch total is same so_far =
    ap (λ (x : State). replayed x (entries_of others)) same ∙ sym (go_on s batch (entries_of others))
    ∙ sym (ap (replayed s) (ap entries_of is ∙ flat_map-cons (λ (b : List Entry). b) batch others)) ∙ so_far

pub restore_end : (s : State) (left : List (List Entry)) (total : State) → left ≡ [] → replayed s (entries_of left) ≡ total → s ≡ total
unfolding replayed
restore_end s left total is so_far = sym (ap (replayed s) (ap entries_of is)) ∙ so_far
