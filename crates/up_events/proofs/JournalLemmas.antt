-- The journal's fields after one more change.
use Rattle.std.proofs.Common.{◌≡◌, ◌≢◌, ℕ, ◌+◌, ◌^◌, ◌≤◌, ◌<◌, ◌%◌, Bool, true, false, cond, eqb, ltb, Some, None, is_some, List, [], ◌∷◌, ◌++◌, length, zero, suc, refl, sym, ap, ◌∙◌, subst, arith, ◌-◌, Vec, drop, get_or, replicate, slice_get, slice_set, length-append, mod-lt}
use Rattle.std.proofs.Math.ListN.{length-set}
use Rattle.std.specs.Vec.{with_item}
use Rattle.std.specs.Map.{lookup}
use Rattle.std.proofs.lemmas.Bool.{eq-eqb, ltb-true, ltb-false}
use Rattle.std.proofs.lemmas.Option.{get_or_from_slice_get, slice_get_read}
use Rattle.std.specs.Ordering.{nat_cmp}
use Rattle.std.specs.BTreeMap.{BTreeMap, is_at, Updates, IsUnchanged}
use Rattle.std.proofs.lemmas.List.{drop-append-le, get_or-drop, length-drop, drop-drop}
use Rattle.std.specs.declared.alloc.Global.{Global}
use Rattle.up_events.specs.declared.event.Accepted.{Accepted}
use Rattle.up_events.specs.declared.event.Accepted.TheVariants.{Created, Appended, Declared, Terminated}
use Rattle.up_events.specs.declared.event.Event.{Event}
use Rattle.up_events.specs.declared.track.Track.{Track}
use Rattle.up_events.specs.declared.journal.Journal.TheInside.{Inside}
use Rattle.up_events.specs.Ascending.{has}
use Rattle.up_events.specs.Lists.{gather, EachFollows, first_given}
use Rattle.up_events.specs.History.{id_of, kind_of, length_of, is_final, offset_of, is_terminated, is_alive, CanFollow, IsLegal, EventBody, steps_at, steps_of, events_of}
use Rattle.up_events.specs.Log.{numbered, log_of}
use Rattle.up_events.specs.Left.{Left, log_length}
use Rattle.up_events.specs.Listing.{Listing}
use Rattle.up_events.specs.Records.{Records, empty_records, first_of, firsts_of, forgot, kept_log, lane_log, noted, ArePlaces, AreEmpty}
use Rattle.up_events.specs.contracts.journal.Journal.{the_view}
use Rattle.up_events.specs.Reached.{reached, bytes_added, track_left, ended_by}
use Rattle.up_events.specs.Kept.{IsKept, IsTailOf, track_of}
use Rattle.up_events.proofs.HistoryLemmas.{append_nil, EachFollows-snoc, log_of-snoc}
use Rattle.up_events.proofs.ListLemmas.{each_push, each_set, not_same}
use Rattle.up_events.proofs.TrackLemmas.{tracks_after, ended_after}
use Rattle.up_events.proofs.Sound.{IsSound, sound, offset_of-plain, steps_of-reached, track_of-reached}

-- ---- numbers fit

at_most_one : (b : Bool) → cond b 1 0 ≤ 1
at_most_one true = omega arith
at_most_one false = omega arith

one_or_two : (b : Bool) → cond b 2 1 ≤ 2
one_or_two true = omega arith
one_or_two false = omega arith

pub few_events : (changes : List Accepted) (u : ℕ) → IsSound changes u → length (events_of changes u) + 2 < 2 ^ 64
few_events changes u s =
    let ended = at_most_one (is_terminated changes u) in
    let told = one_or_two (is_some (length_of changes u)) in
    elim (is_final (kind_of changes u)) as (λ b. is_final (kind_of changes u) ≡ b → length (events_of changes u) + 2 < 2 ^ 64) [
      | true ↦ λ e. omega (arith, s.few, s.final e)
      | false ↦ λ e. omega (arith, s.few, offset_of-plain changes u e, s.within, s.small)
    ] refl

pub bytes_fit : (changes : List Accepted) (c : Accepted) → IsSound changes (id_of c) → CanFollow changes c → offset_of changes (id_of c) + bytes_added c < 2 ^ 64
bytes_fit changes (Created u n kind) s can = omega (arith, s.within, s.small)
bytes_fit changes (Appended u n) s can = omega (arith, can.2, s.small)
bytes_fit changes (Declared u n k) s can = omega (arith, can.2, can.3)
bytes_fit changes (Terminated u) s can = omega (arith, s.within, s.small)

pub events-reached : (t : Track) (c : Accepted) → (reached t c).events ≡ t.events
events-reached t (Created u n kind) = refl
events-reached t (Appended u n) = refl
events-reached t (Declared u n k) = refl
events-reached t (Terminated u) = refl

-- ---- the logs

not_added : {X : Type 0} (b : Bool) (xs ys : List X) → b ≡ false → xs ++ cond b ys [] ≡ xs
not_added b xs ys e = ap (λ b. xs ++ cond b ys []) e ∙ append_nil xs

added : {X : Type 0} (b : Bool) (xs ys : List X) → b ≡ true → xs ++ cond b ys [] ≡ xs ++ ys
added b xs ys e = ap (λ b. xs ++ cond b ys []) e

log_of-elsewhere : (lanes : ℕ) (changes : List Accepted) (c : Accepted) (k : ℕ) → k ≢ id_of c % lanes → log_of lanes (changes ++ c ∷ []) k ≡ log_of lanes changes k
log_of-elsewhere lanes changes c k apart = log_of-snoc lanes changes c k ∙ not_added _ (log_of lanes changes k) (numbered (id_of c) (length (events_of changes (id_of c))) (steps_of changes c)) (not_same (id_of c % lanes) k apart)

pub log_of-here : (lanes : ℕ) (changes : List Accepted) (c : Accepted) → log_of lanes (changes ++ c ∷ []) (id_of c % lanes) ≡ log_of lanes changes (id_of c % lanes) ++ numbered (id_of c) (length (events_of changes (id_of c))) (steps_of changes c)
log_of-here lanes changes c = log_of-snoc lanes changes c (id_of c % lanes) ∙ added _ (log_of lanes changes (id_of c % lanes)) (numbered (id_of c) (length (events_of changes (id_of c))) (steps_of changes c)) (eq-eqb (id_of c % lanes) (id_of c % lanes) refl)

-- ---- what is left of a log

pub tail_length : (log : List Event) (t : Left) → IsTailOf log t → log_length t ≡ length log
tail_length log t k = let e = ap length k.events_are ∙ length-drop t.first log in omega (arith, k.within)

pub tail_same : (log : List Event) (t n : Left) → IsTailOf log t → n.first ≡ t.first → n.events ≡ t.events → IsTailOf log n
tail_same log t n k first events =
    record { within = omega (arith, k.within); events_are = events ∙ k.events_are ∙ ap (λ i. drop i log) (sym first) }

pub tail_more : (log more : List Event) (t n : Left) → IsTailOf log t → n.first ≡ t.first → n.events ≡ t.events ++ more → IsTailOf (log ++ more) n
tail_more log more t n k first events = record {
  within = omega (arith, k.within, length-append log more);
  events_are = events ∙ ap (λ l. l ++ more) k.events_are ∙ sym (drop-append-le t.first log more k.within) ∙ ap (λ i. drop i (log ++ more)) (sym first);
}

pub dropped_on : (log : List Event) (first place : ℕ) → first ≤ place → drop (place - first) (drop first log) ≡ drop place log
dropped_on log first place there = grind (arith, drop-drop)

pub tail_later : (log : List Event) (t n : Left) (place : ℕ) → IsTailOf log t → t.first ≤ place → place ≤ length log → n.first ≡ place → n.events ≡ drop (place - t.first) t.events → IsTailOf log n
tail_later log t n place k there within first events = record {
  within = omega arith;
  events_are = events ∙ ap (drop (place - t.first)) k.events_are ∙ dropped_on log t.first place there ∙ ap (λ i. drop i log) (sym first);
}

-- how many events of a lane's log were forgotten
pub first_at : (logs : List Left) (k : ℕ) (log : Left) → slice_get logs k ≡ Some log → get_or (firsts_of logs) k 0 ≡ log.first
first_at [] k log e = absurd (cc)
first_at (y ∷ ys) zero log e = let h : y ≡ log = cc in ap (λ (l : Left). l.first) h
first_at (y ∷ ys) (suc k) log e = first_at ys k log e

pub first_past : (logs : List Left) (k : ℕ) → length logs ≤ k → get_or (firsts_of logs) k 0 ≡ 0
first_past [] k past = refl
first_past (y ∷ ys) zero past = absurd (omega arith)
first_past (y ∷ ys) (suc k) past = first_past ys k (omega arith)

pub firsts_same : (logs : List Left) (i : ℕ) (old new : Left) → slice_get logs i ≡ Some old → new.first ≡ old.first → firsts_of (slice_set logs i new) ≡ firsts_of logs
firsts_same [] i old new was same = refl
firsts_same (y ∷ ys) zero old new was same = let h : old ≡ y = cc in ap (λ f. f ∷ firsts_of ys) (same ∙ ap (λ (l : Left). l.first) h)
firsts_same (y ∷ ys) (suc i) old new was same = ap (λ l. y.first ∷ l) (firsts_same ys i old new was same)

pub firsts_set : (logs : List Left) (i : ℕ) (new : Left) → firsts_of (slice_set logs i new) ≡ slice_set (firsts_of logs) i new.first
firsts_set [] i new = refl
firsts_set (y ∷ ys) zero new = refl
firsts_set (y ∷ ys) (suc i) new = ap (λ l. y.first ∷ l) (firsts_set ys i new)

pub firsts_past : (logs : List Left) (i place : ℕ) → length logs ≤ i → firsts_of logs ≡ slice_set (firsts_of logs) i place
firsts_past [] i place past = refl
firsts_past (y ∷ ys) zero place past = absurd (omega arith)
firsts_past (y ∷ ys) (suc i) place past = ap (λ l. y.first ∷ l) (firsts_past ys i place (omega arith))

pub firsts_new : (logs : List Left) → ((k : ℕ) (log : Left) → slice_get logs k ≡ Some log → log.first ≡ 0) → firsts_of logs ≡ replicate (length logs) 0
firsts_new [] none = refl
firsts_new (y ∷ ys) none = rw (none 0 y refl) (ap (λ l. 0 ∷ l) (firsts_new ys (λ k log e. none (suc k) log e)))

-- ---- the logs after a step

pub logs_after : (lanes : ℕ) (changes : List Accepted) (c : Accepted) (logs : List Left) (new : Left) → ((k : ℕ) (log : Left) → slice_get logs k ≡ Some log → IsTailOf (log_of lanes changes k) log) → IsTailOf (log_of lanes (changes ++ c ∷ []) (id_of c % lanes)) new → (k : ℕ) (log : Left) → slice_get (slice_set logs (id_of c % lanes) new) k ≡ Some log → IsTailOf (log_of lanes (changes ++ c ∷ []) k) log
logs_after lanes changes c logs new old here =
    each_set (λ k log. IsTailOf (log_of lanes changes k) log) (λ k log. IsTailOf (log_of lanes (changes ++ c ∷ []) k) log) logs (id_of c % lanes) new old here
    (λ k log apart e. subst (λ l. IsTailOf l log) (sym (log_of-elsewhere lanes changes c k apart)) e)

pub logs_same : (f : ℕ → List Event) (logs : List Left) (i : ℕ) (new : Left) → ((k : ℕ) (log : Left) → slice_get logs k ≡ Some log → IsTailOf (f k) log) → IsTailOf (f i) new → (k : ℕ) (log : Left) → slice_get (slice_set logs i new) k ≡ Some log → IsTailOf (f k) log
logs_same f logs i new old here = each_set (λ k log. IsTailOf (f k) log) (λ k log. IsTailOf (f k) log) logs i new old here (λ k log apart e. e)

-- ---- the whole of it

pub kept_same : (a : Inside) (accepted : Listing) (i : ℕ) (log0 log : Left) (tracks : BTreeMap ℕ Track) (ended : List ℕ) (bytes : ℕ) → IsKept a → accepted.items ≡ a.accepted.items → slice_get a.logs.items i ≡ Some log0 → IsTailOf (log_of a.lanes a.accepted.items i) log → IsUnchanged a.tracks tracks → ended ≡ a.ended → IsKept (record { lanes = a.lanes; accepted = accepted; logs = with_item a.logs i log; tracks = tracks; ended = ended; bytes = bytes })
kept_same a accepted i log0 log tracks ended bytes k e was here unchanged same = record {
  some_lane = k.some_lane;
  few_lanes = k.few_lanes;
  legal = subst IsLegal (sym e) k.legal;
  rows = length-set a.logs.items i log ∙ k.rows;
  logs = subst (λ l. (j : ℕ) (v : Left) → slice_get (slice_set a.logs.items i log) j ≡ Some v → IsTailOf (log_of a.lanes l j) v) (sym e)
      (logs_same (log_of a.lanes a.accepted.items) a.logs.items i log k.logs here);
  tracks = λ u. ap (lookup (is_at (nat_cmp u))) unchanged ∙ k.tracks u ∙ ap (λ l. cond (is_alive l u) (Some (track_of l u)) None) (sym e);
  ended = λ u. ap (λ ids. has ids u) same ∙ k.ended u ∙ ap (λ l. is_terminated l u) (sym e);
}

pub kept_after : (a : Inside) (c : Accepted) (accepted : Listing) (log0 log : Left) (tracks : BTreeMap ℕ Track) (ended : List ℕ) (bytes : ℕ) (t : Track) → IsKept a → CanFollow a.accepted.items c → accepted.items ≡ a.accepted.items ++ c ∷ [] → slice_get a.logs.items (id_of c % a.lanes) ≡ Some log0 → log.first ≡ log0.first → log.events ≡ log0.events ++ numbered (id_of c) (length (events_of a.accepted.items (id_of c))) (steps_of a.accepted.items c) → Updates nat_cmp a.tracks tracks (id_of c) (track_left c t) → t ≡ track_of (a.accepted.items ++ c ∷ []) (id_of c) → ended ≡ a.ended ++ ended_by c → IsKept (record { lanes = a.lanes; accepted = accepted; logs = with_item a.logs (id_of c % a.lanes) log; tracks = tracks; ended = ended; bytes = bytes })
kept_after a c accepted log0 log tracks ended bytes t k can e was first grown updates is more =
    let old = a.accepted.items in
    let here : IsTailOf (log_of a.lanes (old ++ c ∷ []) (id_of c % a.lanes)) log =
    subst (λ l. IsTailOf l log) (sym (log_of-here a.lanes old c)) (tail_more (log_of a.lanes old (id_of c % a.lanes)) _ log0 log (k.logs (id_of c % a.lanes) log0 was) first grown) in
    record {
      some_lane = k.some_lane;
      few_lanes = k.few_lanes;
      legal = subst IsLegal (sym e) (EachFollows-snoc CanFollow [] old c k.legal can);
      rows = length-set a.logs.items (id_of c % a.lanes) log ∙ k.rows;
      logs = subst (λ l. (j : ℕ) (v : Left) → slice_get (slice_set a.logs.items (id_of c % a.lanes) log) j ≡ Some v → IsTailOf (log_of a.lanes l j) v) (sym e)
          (logs_after a.lanes old c a.logs.items log k.logs here);
      tracks = λ u. tracks_after old c t a.tracks tracks (sound old k.legal (id_of c)) can k.tracks updates is u ∙ ap (λ l. cond (is_alive l u) (Some (track_of l u)) None) (sym e);
      ended = λ u. ended_after old c a.ended ended k.ended more u ∙ ap (λ l. is_terminated l u) (sym e);
    }

pub kept_later : (a : Inside) (k : ℕ) (log0 log : Left) (place : ℕ) → IsKept a → slice_get a.logs.items k ≡ Some log0 → log0.first ≤ place → place ≤ length (log_of a.lanes a.accepted.items k) → log.first ≡ place → log.events ≡ drop (place - log0.first) log0.events → IsKept (record { lanes = a.lanes; accepted = a.accepted; logs = with_item a.logs k log; tracks = a.tracks; ended = a.ended; bytes = a.bytes })
kept_later a k log0 log place kept was there within first events =
    let full = log_of a.lanes a.accepted.items k in record {
      some_lane = kept.some_lane;
      few_lanes = kept.few_lanes;
      legal = kept.legal;
      rows = length-set a.logs.items k log ∙ kept.rows;
      logs = logs_same (log_of a.lanes a.accepted.items) a.logs.items k log kept.logs (tail_later full log0 log place (kept.logs k log0 was) there within first events);
      tracks = kept.tracks;
      ended = kept.ended;
    }

-- what a journal stands for, once a log's first events were forgotten
pub records_later : (a : Inside) (r : Records) (k : ℕ) (log : Left) (place : ℕ) → the_view a ≡ r → log.first ≡ place → the_view (record { lanes = a.lanes; accepted = a.accepted; logs = with_item a.logs k log; tracks = a.tracks; ended = a.ended; bytes = a.bytes }) ≡ forgot r k place
records_later a r k log place view first =
    ap (λ f. record (the_view a) { firsts = f }) (firsts_set a.logs.items k log ∙ ap (slice_set (firsts_of a.logs.items) k) first) ∙ ap (λ r. forgot r k place) view

-- the same, once a change was noted, or was not
pub records_same : (a : Inside) (accepted : Listing) (i : ℕ) (log0 log : Left) (tracks : BTreeMap ℕ Track) (ended : List ℕ) (bytes : ℕ) → accepted.items ≡ a.accepted.items → accepted.keeps ≡ a.accepted.keeps → slice_get a.logs.items i ≡ Some log0 → log.first ≡ log0.first → the_view (record { lanes = a.lanes; accepted = accepted; logs = with_item a.logs i log; tracks = tracks; ended = ended; bytes = bytes }) ≡ the_view a
records_same a accepted i log0 log tracks ended bytes items keeps was first = rw (items, keeps, firsts_same a.logs.items i log0 log was first) refl

pub records_after : (a : Inside) (c : Accepted) (accepted : Listing) (i : ℕ) (log0 log : Left) (tracks : BTreeMap ℕ Track) (ended : List ℕ) (bytes : ℕ) → accepted.items ≡ a.accepted.items ++ c ∷ [] → accepted.keeps ≡ a.accepted.keeps → slice_get a.logs.items i ≡ Some log0 → log.first ≡ log0.first → the_view (record { lanes = a.lanes; accepted = accepted; logs = with_item a.logs i log; tracks = tracks; ended = ended; bytes = bytes }) ≡ noted (the_view a) c
records_after a c accepted i log0 log tracks ended bytes items keeps was first = rw (items, keeps, firsts_same a.logs.items i log0 log was first) refl

-- ---- an absent lane

gather_nothing : {X Y : Type 0} (f : List X → X → List Y) (before rest : List X) → ((before : List X) (x : X) → f before x ≡ []) → gather f before rest ≡ []
unfolding gather
gather_nothing f before [] none = refl
gather_nothing f before (x ∷ rest) none = ap (λ l. l ++ gather f (before ++ x ∷ []) rest) (none before x) ∙ gather_nothing f (before ++ x ∷ []) rest none

below_absent : (u lanes k : ℕ) → 0 < lanes → lanes ≤ k → eqb (u % lanes) k ≡ false
below_absent u lanes k some past = let m : u % lanes < lanes = mod-lt u some in not_same (u % lanes) k (λ e. absurd (omega arith))

pub log_of-absent : (lanes : ℕ) (changes : List Accepted) (k : ℕ) → 0 < lanes → lanes ≤ k → log_of lanes changes k ≡ []
unfolding log_of
log_of-absent lanes changes k some past =
    gather_nothing _ [] changes (λ before c. not_added _ [] (numbered (id_of c) (length (events_of before (id_of c))) (steps_of before c)) (below_absent (id_of c) lanes k some past))

-- what the step computes from the upload's track is what the definitions say
pub step_track : (changes : List Accepted) (c : Accepted) (r : Track) (count : ℕ) → IsSound changes (id_of c) → CanFollow changes c → r ≡ reached (track_of changes (id_of c)) c → count ≡ length (steps_at c r.offset r.length) → record r { events = r.events + count } ≡ track_of (changes ++ c ∷ []) (id_of c)
step_track changes c r count s can is n =
    let old = track_of changes (id_of c) in
    let steps : count ≡ length (steps_of changes c) = n ∙ ap (λ (t : Track). length (steps_at c t.offset t.length)) is ∙ ap length (sym (steps_of-reached changes c s can)) in
    ap (λ (t : Track). record t { events = t.events + count }) is
    ∙ ap (λ n. record (reached old c) { events = n }) (ap (λ k. k + count) (events-reached old c) ∙ ap (λ k. length (events_of changes (id_of c)) + k) steps)
    ∙ sym (track_of-reached changes c s can)

pub step_events : (changes : List Accepted) (c : Accepted) (r : Track) → IsSound changes (id_of c) → CanFollow changes c → r ≡ reached (track_of changes (id_of c)) c → numbered (id_of c) r.events (steps_at c r.offset r.length) ≡ numbered (id_of c) (length (events_of changes (id_of c))) (steps_of changes c)
step_events changes c r s can is =
    let old = track_of changes (id_of c) in
    ap (λ (t : Track). numbered (id_of c) t.events (steps_at c t.offset t.length)) is
    ∙ ap (λ k. numbered (id_of c) k (steps_at c (reached old c).offset (reached old c).length)) (events-reached old c)
    ∙ ap (numbered (id_of c) (length (events_of changes (id_of c)))) (sym (steps_of-reached changes c s can))

length-numbered : (u n : ℕ) (steps : List EventBody) → length (numbered u n steps) ≡ length steps
length-numbered u n [] = refl
length-numbered u n (s ∷ steps) = ap suc (length-numbered u (n + 1) steps)

pub step_places : (lanes : ℕ) (changes : List Accepted) (c : Accepted) (lane first count : ℕ) → lane ≡ id_of c % lanes → first ≡ length (log_of lanes changes lane) → count ≡ length (steps_of changes c) → (keeps : Bool) (firsts : List ℕ) → ArePlaces (record { lanes = lanes; accepted = changes; keeps = keeps; firsts = firsts }) c lane first count
step_places lanes changes c lane first count here begin n keeps firsts =
    let grown : length (log_of lanes (changes ++ c ∷ []) lane) ≡ length (log_of lanes changes lane) + length (steps_of changes c) =
    ap (λ k. length (log_of lanes (changes ++ c ∷ []) k)) here ∙ ap length (log_of-here lanes changes c)
    ∙ length-append (log_of lanes changes (id_of c % lanes)) (numbered (id_of c) (length (events_of changes (id_of c))) (steps_of changes c))
    ∙ ap (λ k. length (log_of lanes changes (id_of c % lanes)) + k) (length-numbered (id_of c) (length (events_of changes (id_of c))) (steps_of changes c))
    ∙ ap (λ k. length (log_of lanes changes k) + length (steps_of changes c)) (sym here) in
    record { of_its_lane = here; begin = begin; end = omega arith }

-- ---- a log that is read

-- the place of a lane's tail, and the tail, by what a look into the list of tails gave
pub tail_at : (a : Inside) (r : Records) (k : ℕ) (log : Left) → IsKept a → the_view a ≡ r → k < length a.logs.items → log ≡ get_or a.logs.items k log → (first_of r k ≡ log.first) × IsTailOf (lane_log r k) log
tail_at a r k log kept view within read =
    let was = slice_get_read a.logs.items (length a.logs.items) k log refl within read in
    subst (λ (r : Records). (first_of r k ≡ log.first) × IsTailOf (lane_log r k) log) view (first_at a.logs.items k log was, kept.logs k log was)

pub tail_read : (a : Inside) (r : Records) (logs : List Left) (k : ℕ) (log : Left) → IsKept a → the_view a ≡ r → logs ≡ a.logs.items → true ≡ ltb k (length logs) → log ≡ get_or logs k log → (first_of r k ≡ log.first) × IsTailOf (lane_log r k) log
tail_read a r logs k log kept view is within found =
    tail_at a r k log kept view (omega (arith, ltb-true k (length logs) (sym within), ap length is)) (found ∙ ap (λ l. get_or l k log) is)

-- there is no log of a lane that isn't there
pub no_tail_read : (a : Inside) (r : Records) (logs : List Left) (k : ℕ) → IsKept a → the_view a ≡ r → logs ≡ a.logs.items → false ≡ ltb k (length logs) → (first_of r k ≡ 0) × (lane_log r k ≡ [])
no_tail_read a r logs k kept view is past =
    let beyond : length logs ≤ k = ltb-false k (length logs) (sym past) in
    let rows : length logs ≡ length a.logs.items = ap length is in
    subst (λ (r : Records). (first_of r k ≡ 0) × (lane_log r k ≡ [])) view
    (first_past a.logs.items k (omega arith), log_of-absent a.lanes a.accepted.items k kept.some_lane (omega (arith, kept.rows)))

-- a lane whose log has an event is there
pub lane_there : (a : Inside) (r : Records) (k place : ℕ) → IsKept a → the_view a ≡ r → place < length (lane_log r k) → k < length a.logs.items
lane_there a r k place kept view within =
    elim (ltb k (length a.logs.items)) as (λ b. ltb k (length a.logs.items) ≡ b → k < length a.logs.items) [
      | true ↦ λ e. ltb-true k (length a.logs.items) e
      | false ↦ λ e. let t = no_tail_read a r a.logs.items k kept view refl (sym e) in absurd (omega (arith, ap length t.1))
    ] refl

-- the same of the lane that has an event
pub tail_with : (a : Inside) (r : Records) (k place : ℕ) (log : Left) → IsKept a → the_view a ≡ r → place < length (lane_log r k) → log ≡ get_or a.logs.items k log → (first_of r k ≡ log.first) × IsTailOf (lane_log r k) log
tail_with a r k place log kept view within = tail_at a r k log kept view (lane_there a r k place kept view within)

pub event_left : (log : List Event) (t : Left) (place : ℕ) (event : Event) → IsTailOf log t → t.first ≤ place → place < length log → slice_get t.events (place - t.first) ≡ Some event → slice_get log place ≡ Some event
event_left log t place event is there within at =
    let on : t.first + (place - t.first) ≡ place = omega arith in
    slice_get_read log (length log) place event refl within
    (sym (get_or_from_slice_get t.events (place - t.first) event event at) ∙ ap (λ l. get_or l (place - t.first) event) is.events_are ∙ get_or-drop t.first log (place - t.first) event ∙ ap (λ i. get_or log i event) on)

-- the first event that is left, and those from there on
pub kept_read : (r : Records) (k : ℕ) (log : Left) → (first_of r k ≡ log.first) × IsTailOf (lane_log r k) log → log.events ≡ kept_log r k
kept_read r k log t = t.1.events_are ∙ ap (λ i. drop i (lane_log r k)) (sym t.0)

-- ---- a new journal

-- what holds of each member holds of each with one more
pub empty_more : (n : ℕ) (logs new : List Left) (log : Left) → AreEmpty n logs → log.first ≡ 0 → log.events ≡ [] → new ≡ logs ++ log ∷ [] → AreEmpty (n + 1) new
empty_more n logs new log are first events is = subst (AreEmpty (n + 1)) (sym is) (record {
  rows = omega (arith, length-append logs (log ∷ []), are.rows);
  first = each_push (λ _ (l : Left). l.first ≡ 0) logs log are.first first;
  empty = each_push (λ _ (l : Left). l.events ≡ []) logs log are.empty events;
})

pub kept_new : (lanes : ℕ) (accepted : Listing) (logs : Vec Left Global) (tracks : BTreeMap ℕ Track) (ended : List ℕ) → 0 < lanes → lanes ≤ 16 → accepted.items ≡ [] → AreEmpty lanes logs.items → tracks.entries ≡ [] → ended ≡ [] → IsKept (record { lanes = lanes; accepted = accepted; logs = logs; tracks = tracks; ended = ended; bytes = 0 })
unfolding log_of gather kind_of first_given is_terminated EachFollows
kept_new lanes accepted logs tracks ended some few none are empty no_ids = record {
  some_lane = some;
  few_lanes = few;
  legal = subst IsLegal (sym none) tt;
  rows = are.rows;
  logs = λ k log e. record {
    within = omega (arith, are.first k log e);
    events_are = are.empty k log e ∙ rw (are.first k log e) (ap (λ l. log_of lanes l k) (sym none));
  };
  tracks = λ u. ap (lookup (is_at (nat_cmp u))) empty ∙ ap (λ l. cond (is_alive l u) (Some (track_of l u)) None) (sym none);
  ended = λ u. ap (λ ids. has ids u) no_ids ∙ ap (λ l. is_terminated l u) (sym none);
}

pub records_new : (lanes : ℕ) (accepted : Listing) (logs : List Left) (keeps : Bool) → accepted.items ≡ [] → accepted.keeps ≡ keeps → AreEmpty lanes logs → record { lanes = lanes; accepted = accepted.items; keeps = accepted.keeps; firsts = firsts_of logs } ≡ record (empty_records lanes) { keeps = keeps }
records_new lanes accepted logs keeps none same are = rw (none, same, firsts_new logs are.first, are.rows) refl
