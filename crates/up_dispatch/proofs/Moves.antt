-- What a call leaves behind the lock.
use Rattle.std.proofs.Common.{◌≡◌, ◌≢◌, ℕ, zero, suc, ◌+◌, ◌<◌, ◌≤◌, ◌%◌, List, [], ◌∷◌, ◌++◌, length, get_or, set, map, false, cond, eqb, Option, Some, None, IsSome, is_some, refl, sym, ap, ◌∙◌, subst, arith, length-append, length-set, get_or-set_same, get_or-set_other, ⊎_elim}
use Rattle.std.proofs.lemmas.Bool.{cases_eq}
use mir.Val.{bool_byte}
use Rattle.std.proofs.lemmas.List.{length-map, map-set}
use Rattle.up_events.specs.declared.event.Accepted.{Accepted}
use Rattle.up_events.specs.declared.event.Event.{Event}
use Rattle.up_events.specs.History.{id_of, steps_of, events_of}
use Rattle.up_events.specs.Log.{numbered}
use Rattle.up_events.specs.Records.{Records, first_of, lane_log, noted}
use Rattle.up_events.proofs.HistoryLemmas.{log_of-snoc}
use Rattle.up_headers.specs.declared.request.Request.{Request}
use Rattle.up_machine.specs.Fits.{IsSoundBook}
use Rattle.up_machine.specs.State.{State, after}
use Rattle.up_queue.specs.EndViews.{QueueId, PutEndView}
use Rattle.up_dispatch.specs.declared.queue_cursor.QueueCursor.{QueueCursor}
use Rattle.up_dispatch.specs.Lists.{EachAt}
use Rattle.up_dispatch.specs.QueuedUpTo.{IsQueuedUpTo}
use Rattle.up_dispatch.specs.Commits.{changed}
use Rattle.up_dispatch.specs.Puts.{no_end, end_at, Extends, FillsOnly, IsFilled}
use Rattle.up_dispatch.specs.BoardView.{ends_of, IsLawfulBoard}
use Rattle.up_dispatch.proofs.Each.{EachAt-weaker}
use Rattle.up_dispatch.proofs.QueueCursors.{queued_grown}
use Rattle.up_dispatch.proofs.Prefixes.{extends_same}

get_map : {X Y : Type 0} (f : X → Y) (xs : List X) (i : ℕ) (d : X) (e : Y) → i < length xs → get_or (map f xs) i e ≡ f (get_or xs i d)
get_map f [] i d e within = absurd (omega arith)
get_map f (x ∷ xs) zero d e within = refl
get_map f (x ∷ xs) (suc i) d e within = get_map f xs i d e (omega arith)

abbrev end_of : QueueCursor → PutEndView
end_of f = f.put_end

-- the end of the lane's feed
pub end_is : (cursors : List QueueCursor) (lane : ℕ) (cursor : QueueCursor) → lane < length cursors → cursor ≡ get_or cursors lane cursor → end_at (ends_of cursors) lane ≡ cursor.put_end
end_is cursors lane cursor within is = get_map end_of cursors lane cursor no_end within ∙ ap end_of (sym is)

pub end_set : (cursors : List QueueCursor) (lane : ℕ) (new : QueueCursor) → lane < length cursors → end_at (ends_of (set cursors lane new)) lane ≡ new.put_end
end_set cursors lane new within = ap (λ l. get_or l lane no_end) (map-set end_of cursors lane new) ∙ get_or-set_same (map end_of cursors) lane (end_of new) no_end (omega (arith, length-map cursors end_of))

pub fills_only : (cursors : List QueueCursor) (lane : ℕ) (old new : QueueCursor) → lane < length cursors → old ≡ get_or cursors lane old → Extends old.put_end new.put_end
    → FillsOnly (ends_of cursors) (ends_of (set cursors lane new)) lane
fills_only cursors lane old new within is extends =
    let moved : ends_of (set cursors lane new) ≡ set (ends_of cursors) lane (end_of new) = map-set end_of cursors lane new in
    let was = end_is cursors lane old within is in
    record {
      count = ap length moved ∙ length-set (ends_of cursors) lane (end_of new);
      own = subst (λ e. Extends e (end_at (ends_of (set cursors lane new)) lane)) (sym was) (subst (λ e. Extends (end_of old) e) (sym (end_set cursors lane new within)) extends);
      others = λ k ne. ap (λ l. get_or l k no_end) moved ∙ get_or-set_other (ends_of cursors) lane k (end_of new) no_end ne;
    }

pub fills_extends : (old new : List PutEndView) (lane : ℕ) → FillsOnly old new lane → (k : ℕ) → Extends (end_at old k) (end_at new k)
fills_extends old new lane fills k =
    ⊎_elim (λ (e : k ≡ lane). subst (λ (n : ℕ). Extends (end_at old n) (end_at new n)) (sym e) fills.own)
    (λ (ne : k ≢ lane). subst (λ (e : PutEndView). Extends (end_at old k) e) (sym (fills.others k ne)) (extends_same (end_at old k)))
    (cases_eq k lane)

-- one change more, while changes are accepted
abbrev with_change : State → Accepted → State
with_change s c = record s { journal = noted s.journal c }

pub lawful_change : (queue : ℕ → QueueId) (count limit : ℕ) (s t : State) (c : Accepted) (cursors : List QueueCursor) (given total parts amount : ℕ) → IsLawfulBoard queue count limit s cursors given total parts amount → s.closed ≡ false
    → IsSoundBook t → t.journal ≡ noted s.journal c → t.closed ≡ s.closed → t.max_size ≡ s.max_size
    → IsLawfulBoard queue count limit t cursors given (total + 1) parts amount
lawful_change queue count limit s t c cursors given total parts amount lawful going sound noted_is same size =
    let lanes : t.journal.lanes ≡ s.journal.lanes = ap (λ j. j.lanes) noted_is in
    record {
      sound = sound;
      named = lanes ∙ lawful.named;
      sized = size ∙ lawful.sized;
      some = subst (λ n. 0 < n) (sym lanes) lawful.some;
      lanes = lawful.lanes ∙ sym lanes;
      queued = EachAt-weaker (λ k (f : QueueCursor). IsQueuedUpTo (queue k) (lane_log s.journal k) s.closed f) (λ k (f : QueueCursor). IsQueuedUpTo (queue k) (lane_log t.journal k) t.closed f) cursors lawful.queued
          (λ k f within was.
          let more : List Event = cond (eqb (id_of c % s.journal.lanes) k) (numbered (id_of c) (length (events_of s.journal.accepted (id_of c))) (steps_of s.journal.accepted c)) [] in
          let log : lane_log t.journal k ≡ lane_log s.journal k ++ more = ap (λ j. lane_log j k) noted_is ∙ log_of-snoc s.journal.lanes s.journal.accepted c k in
          subst (λ l. IsQueuedUpTo (queue k) l t.closed f) (sym log)
          (subst (λ b. IsQueuedUpTo (queue k) (lane_log s.journal k ++ more) b f) (sym (same ∙ going))
          (queued_grown (queue k) (lane_log s.journal k) more f (subst (λ b. IsQueuedUpTo (queue k) (lane_log s.journal k) b f) going was))));
      behind = subst (λ (j : Records). EachAt (λ k (f : QueueCursor). first_of j k ≤ f.position) cursors) (sym noted_is) lawful.behind;
      counted = omega (arith, lawful.counted, length-append s.journal.accepted (c ∷ []), ap (λ j. length j.accepted) noted_is);
      seats = lawful.seats;
      most = lawful.most;
      none = lawful.none;
    }

-- a book with what a request changed, or as it was
pub lawful_after : (queue : ℕ → QueueId) (count limit : ℕ) (s t : State) (request : Request) (id : ℕ) (change : Option Accepted) (cursors : List QueueCursor) (given total parts amount : ℕ) → IsLawfulBoard queue count limit s cursors given total parts amount
    → (change ≢ None → s.closed ≡ false) → IsSoundBook t → t ≡ after s request id change
    → IsLawfulBoard queue count limit t cursors given (total + changed change) parts amount
lawful_after queue count limit s t request id None cursors given total parts amount lawful open_if sound is =
    subst (λ n. IsLawfulBoard queue count limit t cursors given n parts amount) (omega arith) (subst (λ (u : State). IsLawfulBoard queue count limit u cursors given total parts amount) (sym is) lawful)
lawful_after queue count limit s t request id (Some c) cursors given total parts amount lawful open_if sound is =
    lawful_change queue count limit s t c cursors given total parts amount lawful (open_if (λ e. cc)) sound (ap (λ (u : State). u.journal) is) (ap (λ (u : State). u.closed) is) (ap (λ (u : State). u.max_size) is)

-- one lane more is filled
pub filled_more : (s t : State) → t ≡ s → (old new : List PutEndView) (lane : ℕ) → ((k : ℕ) → k < lane → IsFilled s k (end_at old k)) → FillsOnly old new lane → IsFilled s lane (end_at new lane)
    → (k : ℕ) → k < lane + 1 → IsFilled t k (end_at new k)
filled_more s t same old new lane before fills here k less =
    subst (λ (u : State). IsFilled u k (end_at new k)) (sym same)
    (⊎_elim (λ (e : k ≡ lane). subst (λ (n : ℕ). IsFilled s n (end_at new n)) (sym e) here)
    (λ (ne : k ≢ lane). subst (IsFilled s k) (sym (fills.others k ne)) (before k (omega (arith, ne))))
    (cases_eq k lane))

-- where a change came, the book was open
pub open_if : (s : State) (change : Option Accepted) → (IsSome change → s.closed ≡ false) → change ≢ None → s.closed ≡ false
open_if s None is some = absurd (some refl)
open_if s (Some c) is some = is refl

pub changed_is : (change : Option Accepted) → changed change ≡ bool_byte (is_some change)
changed_is None = refl
changed_is (Some c) = refl
