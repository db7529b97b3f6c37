-- What is still to be handed over.
use Rattle.std.proofs.Common.{◌≡◌, ℕ, ◌+◌, ◌-◌, ◌%◌, ◌≤◌, Bool, true, false, cond, eqb, not, Some, None, List, [], ◌∷◌, ◌++◌, drop, take, min, length, filter, refl, sym, ap, ◌∙◌, subst, arith, append_assoc}
use Rattle.std.specs.FinMap as map
use Rattle.std.specs.List.{All}
use Rattle.std.proofs.lemmas.List.{append-nil, drop_at, drop-drop, length-append, length-take, take-append-drop}
use Rattle.std.proofs.lemmas.List.Elements.{All-head, All-tail, filter-append}
use Rattle.up_events.specs.History.{id_of, events_of, steps_of}
use Rattle.up_events.specs.Log.{numbered}
use Rattle.up_events.specs.Records.{lane_log, noted}
use Rattle.up_events.specs.declared.event.Accepted.{Accepted}
use Rattle.up_events.specs.declared.event.Accepted.TheVariants.{Created, Terminated}
use Rattle.up_events.specs.declared.event.Event.{Event}
use Rattle.up_events.proofs.HistoryLemmas.{log_of-snoc}
use Rattle.up_headers.specs.Rows.{first_that_holds}
use Rattle.up_headers.specs.declared.request.Request.{Request}
use Rattle.up_headers.specs.declared.request.Request.TheVariants as request
use Rattle.up_log.specs.declared.entry.Entry.{Entry}
use Rattle.up_machine.specs.Content.{made_of}
use Rattle.up_machine.specs.Decision.{change_of, patch_declared, response_to, rows_of, unless}
use Rattle.up_machine.specs.State.{Contents, State, after, extended, first_bytes}
use Rattle.up_machine.specs.declared.plan.Done.{Done}
use Rattle.up_replay.specs.Replay.{asked_of, carried, replayed, replayed_one}
use Rattle.up_compact.specs.Shorter.{AreGone, OthersAreHandedAlike, RestIsHandedAlike, events_without, is_about, left_out_events, makes}
use Rattle.up_compact.proofs.Others.{cond_stayed, logs_without}
use Rattle.up_compact.proofs.Shortening.{change_cases}
use Rattle.up_compact.proofs.Ending.{ended_stay, gone_one, unmoved}

-- a lane's log goes on with events of other uploads
record GoesOn (among : ℕ → Bool) (lane : ℕ) (s t : State) : Type 0 where
  added : List Event
  is : lane_log t.journal lane ≡ lane_log s.journal lane ++ added
  others : events_without among added ≡ added

goes_same : (among : ℕ → Bool) (lane : ℕ) (s : State) → GoesOn among lane s s
goes_same among lane s = record { added = []; is = sym (append-nil (lane_log s.journal lane)); others = refl }

goes_trans : (among : ℕ → Bool) (lane : ℕ) (a b c : State) → GoesOn among lane a b → GoesOn among lane b c → GoesOn among lane a c
goes_trans among lane a b c p q = record {
  added = p.added ++ q.added;
  is = q.is ∙ ap (λ (l : List Event). l ++ q.added) p.is ∙ append_assoc (lane_log a.journal lane) p.added q.added;
  others =
      filter-append (λ (e : Event). not (among e.id)) p.added q.added ∙ ap (λ (l : List Event). l ++ events_without among q.added) p.others
      ∙ ap (λ (l : List Event). p.added ++ l) q.others;
}

module _ (among : ℕ → Bool) (lane : ℕ) (s : State) where
  goes_change : (c : Accepted) (content : Contents) → among (id_of c) ≡ false → GoesOn among lane s (record s { content = content; journal = noted s.journal c })
  goes_change c content other =
      let own = eqb (id_of c % s.journal.lanes) lane in
      let count = length (events_of s.journal.accepted (id_of c)) in
      let steps = steps_of s.journal.accepted c in
      record {
        added = cond own (numbered (id_of c) count steps) [];
        is = log_of-snoc s.journal.lanes s.journal.accepted c lane;
        others = cond_stayed among own (id_of c) count steps other;
      }

  goes_after : (r : Request) (id : ℕ) → is_about among r id ≡ false → GoesOn among lane s (after s r id (change_of s r id))
  goes_after request.Options id other = goes_same among lane s
  goes_after (request.Create new) id other =
      let x = made_of new (first_bytes s.content new) in
      goes_change (Created id x.length x.kind) (map.insert s.content id x) other
  goes_after (request.Head u) id other = goes_same among lane s
  goes_after (request.Patch p) id other =
      let found = map.get s.content p.id in
      change_cases p.id (λ change. GoesOn among lane s (after s (request.Patch p) id change)) (goes_same among lane s)
      (λ c is. goes_change c (extended s.content p found) (ap among is ∙ other))
      (patch_declared p found) (length p.bytes)
  goes_after (request.Delete u) id other = goes_change (Terminated u) (map.remove s.content u) other
  goes_after (request.Get u) id other = goes_same among lane s

  goes_one : (entry : Entry) → is_about among entry.request entry.id ≡ false → GoesOn among lane s (replayed_one s entry)
  goes_one entry other =
      let done : Done = record { response = response_to s entry.request entry.id; change = change_of s entry.request entry.id } in
      elim (first_that_holds (rows_of s entry.request entry.id (asked_of entry.consent))) as (λ o. GoesOn among lane s (carried s entry (unless o done))) [
        | None ↦ goes_after entry.request entry.id other
        | Some refused ↦ goes_same among lane s
      ]

-- the log goes on so, and none of the uploads comes back
record GoesOnGone (among : ℕ → Bool) (lane : ℕ) (s t : State) : Type 0 where
  goes : GoesOn among lane s t
  gone : AreGone among t.content

next : (among : ℕ → Bool) (lane : ℕ) (s : State) (entry : Entry) → AreGone among s.content → makes among entry.request entry.id ≡ false → GoesOnGone among lane s (replayed_one s entry)
next among lane s entry gone none =
    elim (is_about among entry.request entry.id) as (λ b. is_about among entry.request entry.id ≡ b → GoesOnGone among lane s (replayed_one s entry)) [
      | true ↦ λ about.
          let same = unmoved among s entry.id entry.consent entry.place entry.request gone about none in
          subst (GoesOnGone among lane s) (sym same) (record { goes = goes_same among lane s; gone = gone })
      | false ↦ λ other. record { goes = goes_one among lane s entry other; gone = gone_one among s entry other gone }
    ] refl

goes_on : (among : ℕ → Bool) (lane : ℕ) (s : State) (more : List Entry) → AreGone among s.content → All (λ (entry : Entry). makes among entry.request entry.id ≡ false) more → GoesOn among lane s (replayed s more)
unfolding replayed
goes_on among lane s [] gone none = goes_same among lane s
goes_on among lane s (entry ∷ more) gone none =
    let MakesNone : Entry → Type 0 = λ (x : Entry). makes among x.request x.id ≡ false in
    let one = next among lane s entry gone (All-head MakesNone entry more none) in
    goes_trans among lane s (replayed_one s entry) (replayed (replayed_one s entry) more) one.goes
    (goes_on among lane (replayed_one s entry) more one.gone (All-tail MakesNone entry more none))

fewer : (p : Event → Bool) (events : List Event) → length (filter p events) ≤ length events
fewer p [] = omega arith
fewer p (e ∷ events) =
    let rest = fewer p events in
    elim (p e) as (λ b. length (cond b (e ∷ filter p events) (filter p events)) ≤ length (e ∷ events)) [ true ↦ omega arith | false ↦ omega arith ]

drop_past : (n : ℕ) (xs ys : List Event) → length xs ≤ n → drop n (xs ++ ys) ≡ drop (n - length xs) ys
drop_past n xs ys past =
    let at : n ≡ length xs + (n - length xs) = omega arith in
    ap (λ (k : ℕ). drop k (xs ++ ys)) at ∙ sym (drop-drop (n - length xs) (length xs) (xs ++ ys))
    ∙ ap (λ (l : List Event). drop (n - length xs) l) (drop_at xs ys (length xs) refl)

pub rest_handed : RestIsHandedAlike
rest_handed among s t more lane handed e none past =
    let then = ended_stay among s t more e none in
    let on = goes_on among lane s more e.ended none in
    let long = lane_log s.journal lane in
    let short = lane_log t.journal lane in
    let short_is : short ≡ events_without among long = logs_without among s t lane e.without in
    let longer : lane_log (replayed s more).journal lane ≡ long ++ on.added = on.is in
    let shorter : lane_log (replayed t more).journal lane ≡ short ++ on.added =
    logs_without among (replayed s more) (replayed t more) lane then.without
    ∙ ap (events_without among) longer
    ∙ filter-append (λ (x : Event). not (among x.id)) long on.added
    ∙ ap (λ (l : List Event). l ++ events_without among on.added) (sym short_is)
    ∙ ap (λ (l : List Event). short ++ l) on.others in
    let less : length short ≤ length long = subst (λ (l : List Event). length l ≤ length long) (sym short_is) (fewer (λ (x : Event). not (among x.id)) long) in
    let rest = handed - left_out_events s t lane in
    let reaches : length short ≤ rest = omega arith in
    let same : rest - length short ≡ handed - length long = omega arith in
    ap (λ (l : List Event). drop rest l) shorter ∙ drop_past rest short on.added reaches
    ∙ ap (λ (k : ℕ). drop k on.added) same
    ∙ sym (ap (λ (l : List Event). drop handed l) longer ∙ drop_past handed long on.added past)

all_stay : (among : ℕ → Bool) (events : List Event) → All (λ (e : Event). among e.id ≡ false) events → events_without among events ≡ events
all_stay among [] all = refl
all_stay among (e ∷ events) all =
    let Stays : Event → Type 0 = λ (x : Event). among x.id ≡ false in
    let here = All-head Stays e events all in
    let rest = all_stay among events (All-tail Stays e events all) in
    subst (λ (b : Bool). cond (not b) (e ∷ events_without among events) (events_without among events) ≡ e ∷ events) (sym here)
    (ap (λ (l : List Event). e ∷ l) rest)

pub others_handed : OthersAreHandedAlike
others_handed among s t lane handed w all =
    let long = lane_log s.journal lane in
    let short = lane_log t.journal lane in
    let first = take handed long in
    let rest = drop handed long in
    let stayed = events_without among first in
    let split : first ++ rest ≡ long = take-append-drop handed long in
    let short_is : short ≡ stayed ++ rest =
    logs_without among s t lane w
    ∙ ap (events_without among) (sym split)
    ∙ filter-append (λ (x : Event). not (among x.id)) first rest
    ∙ ap (λ (l : List Event). stayed ++ l) (all_stay among rest all) in
    let long_len : length long ≡ length first + length rest = ap (λ (l : List Event). length l) (sym split) ∙ length-append first rest in
    let short_len : length short ≡ length stayed + length rest = ap (λ (l : List Event). length l) short_is ∙ length-append stayed rest in
    let less : length stayed ≤ length first = fewer (λ (x : Event). not (among x.id)) first in
    let taken : length first ≡ min handed (length long) = length-take handed long in
    let past : length first ≤ handed = omega arith in
    let n = handed - left_out_events s t lane in
    let reaches : length stayed ≤ n = omega arith in
    let same : n - length stayed ≡ handed - length first = omega arith in
    ap (λ (l : List Event). drop n l) short_is ∙ drop_past n stayed rest reaches
    ∙ ap (λ (k : ℕ). drop k rest) same
    ∙ sym (drop_past handed first rest past)
    ∙ ap (λ (l : List Event). drop handed l) split
