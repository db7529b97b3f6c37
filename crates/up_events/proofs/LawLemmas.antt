-- The events of an upload of a legal list begin with Create, have at most one Finish, and end with Terminate.
use Rattle.std.proofs.Common.{◌≡◌, ◌≢◌, ℕ, ◌+◌, ◌≤◌, Bool, true, false, cond, eqb, Option, Some, None, List, [], ◌∷◌, ◌++◌, refl, sym, ap, ◌∙◌, subst, arith, count_by, filter, ◌%◌}
use Rattle.std.proofs.lemmas.Bool.{eqb-true, false≢true}
use Rattle.std.proofs.lemmas.List.Sums.{sum_by-append}
use Rattle.up_events.specs.declared.event.Accepted.{Accepted}
use Rattle.up_events.specs.declared.event.Accepted.TheVariants.{Created, Appended, Declared, Terminated}
use Rattle.up_events.specs.declared.event.Hook.{Hook}
use Rattle.up_events.specs.declared.event.Hook.TheVariants.{Create, Receive, Finish, Terminate}
use Rattle.up_events.specs.declared.event.Kind.{Kind}
use Rattle.up_events.specs.Lists.{gather, first_given}
use Rattle.up_events.specs.History.{id_of, kind_of, length_of, offset_of, is_known, is_terminated, max_length_of, CanFollow, IsLegal, EventBody, is_whole, receive_at, finish_at, steps_at, events_of}
use Rattle.up_events.specs.declared.event.Event.{Event}
use Rattle.up_events.specs.Log.{is_finish, numbered, log_of, is_of, IsLawfulRun, IsLawful}
use Rattle.up_events.proofs.LogLemmas.{own_is, own_away, counts-numbered}
use Rattle.up_events.proofs.HistoryLemmas.{legal_induction, kind_of-other, length_of-other, offset_of-other, is_terminated-other, events_of-other}
use Rattle.up_events.proofs.Sound.{IsSound, sound, sound_empty, sound_more, alive_known, events_of-own, length_of-terminated, offset_of-terminated, is_terminated-terminated}

abbrev pub Begins : List EventBody → Type 0
Begins [] = Unit {0}
Begins (s ∷ steps) = s.0 ≡ Create

abbrev pub is_end : Hook → Bool
is_end Create = false
is_end Receive = false
is_end Finish = false
is_end Terminate = true

-- no Terminate
abbrev pub GoesOn : List EventBody → Type 0
GoesOn [] = Unit {0}
GoesOn (s ∷ steps) = (is_end s.0 ≡ false) × GoesOn steps

-- nothing follows a Terminate
abbrev pub EndsOnce : List EventBody → Type 0
EndsOnce [] = Unit {0}
EndsOnce (s ∷ steps) = (is_end s.0 ≡ true → steps ≡ []) × EndsOnce steps

abbrev pub finishes : List EventBody → ℕ
finishes steps = count_by (λ (s : EventBody). is_finish s.0) steps

begins_append : (xs ys : List EventBody) → Begins xs → (xs ≡ [] → Begins ys) → Begins (xs ++ ys)
begins_append [] ys b h = h refl
begins_append (x ∷ xs) ys b h = b

goes_append : (xs ys : List EventBody) → GoesOn xs → GoesOn ys → GoesOn (xs ++ ys)
goes_append [] ys g h = h
goes_append (x ∷ xs) ys g h = (g.0, goes_append xs ys g.1 h)

ends_append : (xs ys : List EventBody) → GoesOn xs → EndsOnce ys → EndsOnce (xs ++ ys)
ends_append [] ys g h = h
ends_append (x ∷ xs) ys g h = (λ e. absurd (false≢true (sym g.0 ∙ e)), ends_append xs ys g.1 h)

goes_ends : (xs : List EventBody) → GoesOn xs → EndsOnce xs
goes_ends [] g = tt
goes_ends (x ∷ xs) g = (λ e. absurd (false≢true (sym g.0 ∙ e)), goes_ends xs g.1)

finish_goes : (o : ℕ) (n : Option ℕ) → GoesOn (finish_at o n)
finish_goes o n = elim (is_whole o n) as (λ b. GoesOn (cond b (let s : EventBody = (Finish, o, n) in s ∷ []) [])) [ true ↦ (refl, tt) | false ↦ tt ]

finish_count : (o : ℕ) (n : Option ℕ) → finishes (finish_at o n) ≡ cond (is_whole o n) 1 0
finish_count o n = elim (is_whole o n) as (λ b. finishes (cond b (let s : EventBody = (Finish, o, n) in s ∷ []) []) ≡ cond b 1 0) [ true ↦ refl | false ↦ refl ]

receive_goes : (k o : ℕ) (n : Option ℕ) → GoesOn (receive_at k o n)
receive_goes k o n = elim (eqb k 0) as (λ b. GoesOn (cond b [] (let s : EventBody = (Receive, o, n) in s ∷ []))) [ true ↦ tt | false ↦ (refl, tt) ]

receive_count : (k o : ℕ) (n : Option ℕ) → finishes (receive_at k o n) ≡ 0
receive_count k o n = elim (eqb k 0) as (λ b. finishes (cond b [] (let s : EventBody = (Receive, o, n) in s ∷ [])) ≡ 0) [ true ↦ refl | false ↦ refl ]

cons_some : (s : EventBody) (steps : List EventBody) → s ∷ steps ≡ [] → ⊥
cons_some s steps e = cc

append_some : (xs : List EventBody) (s : EventBody) (ys : List EventBody) → xs ++ s ∷ ys ≡ [] → ⊥
append_some [] s ys e = cc
append_some (x ∷ xs) s ys e = cc

append_nothing : (xs ys : List EventBody) → xs ++ ys ≡ [] → xs ≡ []
append_nothing [] ys e = refl
append_nothing (x ∷ xs) ys e = absurd (cc)

pub record IsRun (changes : List Accepted) (u : ℕ) : Type 0 where
  pub begins : Begins (events_of changes u)
  pub some : is_known changes u ≡ true → events_of changes u ≢ []
  pub count : is_known changes u ≡ true → finishes (events_of changes u) ≡ cond (is_whole (offset_of changes u) (length_of changes u)) 1 0
  pub goes : is_terminated changes u ≡ false → GoesOn (events_of changes u)
  pub ends : EndsOnce (events_of changes u)

abbrev Both : List Accepted → Type 0
Both changes = (u : ℕ) → IsSound changes u × IsRun changes u

run_other : (changes : List Accepted) (c : Accepted) (u : ℕ) → IsRun changes u → eqb (id_of c) u ≡ false → IsRun (changes ++ c ∷ []) u
run_other changes c u r e =
    let kind = kind_of-other changes c u e in
    let events = events_of-other changes c u e in
    record {
      begins = rw events r.begins;
      some = rw (kind, events) r.some;
      count = rw (kind, events, offset_of-other changes c u e, length_of-other changes c u e) r.count;
      goes = rw (events, is_terminated-other changes c u e) r.goes;
      ends = rw events r.ends;
    }

run_created : (changes : List Accepted) (u : ℕ) (n : Option ℕ) (kind : Kind) → IsSound changes u → CanFollow changes (Created u n kind) → IsRun (changes ++ Created u n kind ∷ []) u
run_created changes u n kind s can =
    let c : Accepted = Created u n kind in
    let o = offset_of (changes ++ c ∷ []) u in
    let m = length_of (changes ++ c ∷ []) u in
    let events : events_of (changes ++ c ∷ []) u ≡ steps_at c o m = events_of-own changes c ∙ ap (λ l. l ++ steps_at c o m) (s.no_events can.0) in
    let f : EventBody = (Create, o, m) in
    record {
      begins = subst Begins (sym events) refl;
      some = λ _ none. absurd (cons_some f (finish_at o m) (sym events ∙ none));
      count = λ _. ap finishes events ∙ sum_by-append (λ (s : EventBody). cond (is_finish s.0) 1 0) (f ∷ []) (finish_at o m) ∙ omega (arith, finish_count o m);
      goes = λ _. subst GoesOn (sym events) (refl, finish_goes o m);
      ends = subst EndsOnce (sym events) (goes_ends (steps_at c o m) (refl, finish_goes o m));
    }

below_apart : (o count : ℕ) (n : Option ℕ) → o + count ≤ max_length_of n → 1 ≤ count → is_whole o n ≡ false
below_apart o count None room some = refl
below_apart o count (Some m) room some = elim (eqb o m) as (λ b. eqb o m ≡ b → b ≡ false) [ true ↦ λ e. let same = eqb-true o m e in absurd (omega arith) | false ↦ λ e. refl ] refl

run_appended : (changes : List Accepted) (u n : ℕ) → IsRun changes u → CanFollow changes (Appended u n) → IsRun (changes ++ Appended u n ∷ []) u
run_appended changes u n r can =
    let c : Accepted = Appended u n in
    let o = offset_of (changes ++ c ∷ []) u in
    let m = length_of (changes ++ c ∷ []) u in
    let alive = alive_known (is_known changes u) (is_terminated changes u) can.0.0 in
    let events : events_of (changes ++ c ∷ []) u ≡ events_of changes u ++ steps_at c o m = events_of-own changes c in
    let f : EventBody = (Receive, o, m) in
    let goes = r.goes alive.1 in
    let before : finishes (events_of changes u) ≡ 0 = r.count alive.0 ∙ ap (λ b. cond b 1 0) (below_apart (offset_of changes u) n (length_of changes u) can.2 can.1) in
    let added : finishes (steps_at c o m) ≡ cond (is_whole o m) 1 0 = sum_by-append (λ (s : EventBody). cond (is_finish s.0) 1 0) (f ∷ []) (finish_at o m) ∙ omega (arith, finish_count o m) in
    record {
      begins = subst Begins (sym events) (begins_append (events_of changes u) (steps_at c o m) r.begins (λ none. absurd (r.some alive.0 none)));
      some = λ _ none. absurd (append_some (events_of changes u) f (finish_at o m) (sym events ∙ none));
      count = λ _. ap finishes events ∙ sum_by-append (λ (s : EventBody). cond (is_finish s.0) 1 0) (events_of changes u) (steps_at c o m) ∙ omega (arith, before, added);
      goes = λ _. subst GoesOn (sym events) (goes_append (events_of changes u) (steps_at c o m) goes (refl, finish_goes o m));
      ends = subst EndsOnce (sym events) (ends_append (events_of changes u) (steps_at c o m) goes (goes_ends (steps_at c o m) (refl, finish_goes o m)));
    }

run_declared : (changes : List Accepted) (u n k : ℕ) → IsRun changes u → CanFollow changes (Declared u n k) → IsRun (changes ++ Declared u n k ∷ []) u
run_declared changes u n k r can =
    let c : Accepted = Declared u n k in
    let o = offset_of (changes ++ c ∷ []) u in
    let m = length_of (changes ++ c ∷ []) u in
    let alive = alive_known (is_known changes u) (is_terminated changes u) can.0.0 in
    let events : events_of (changes ++ c ∷ []) u ≡ events_of changes u ++ steps_at c o m = events_of-own changes c in
    let goes = r.goes alive.1 in
    let before : finishes (events_of changes u) ≡ 0 = r.count alive.0 ∙ ap (λ n. cond (is_whole (offset_of changes u) n) 1 0) can.1 in
    let added : finishes (steps_at c o m) ≡ cond (is_whole o m) 1 0 = sum_by-append (λ (s : EventBody). cond (is_finish s.0) 1 0) (receive_at k o m) (finish_at o m) ∙ omega (arith, receive_count k o m, finish_count o m) in
    let on : GoesOn (steps_at c o m) = goes_append (receive_at k o m) (finish_at o m) (receive_goes k o m) (finish_goes o m) in
    record {
      begins = subst Begins (sym events) (begins_append (events_of changes u) (steps_at c o m) r.begins (λ none. absurd (r.some alive.0 none)));
      some = λ _ none. absurd (r.some alive.0 (append_nothing (events_of changes u) (steps_at c o m) (sym events ∙ none)));
      count = λ _. ap finishes events ∙ sum_by-append (λ (s : EventBody). cond (is_finish s.0) 1 0) (events_of changes u) (steps_at c o m) ∙ omega (arith, before, added);
      goes = λ _. subst GoesOn (sym events) (goes_append (events_of changes u) (steps_at c o m) goes on);
      ends = subst EndsOnce (sym events) (ends_append (events_of changes u) (steps_at c o m) goes (goes_ends (steps_at c o m) on));
    }

run_terminated : (changes : List Accepted) (u : ℕ) → IsRun changes u → CanFollow changes (Terminated u) → IsRun (changes ++ Terminated u ∷ []) u
run_terminated changes u r can =
    let c : Accepted = Terminated u in
    let o = offset_of (changes ++ c ∷ []) u in
    let m = length_of (changes ++ c ∷ []) u in
    let alive = alive_known (is_known changes u) (is_terminated changes u) can in
    let size = length_of-terminated changes u u in
    let offset = offset_of-terminated changes u u in
    let events : events_of (changes ++ c ∷ []) u ≡ events_of changes u ++ steps_at c o m = events_of-own changes c in
    let f : EventBody = (Terminate, o, m) in
    let goes = r.goes alive.1 in
    let ended = is_terminated-terminated changes u in
    record {
      begins = subst Begins (sym events) (begins_append (events_of changes u) (steps_at c o m) r.begins (λ none. absurd (r.some alive.0 none)));
      some = λ _ none. absurd (append_some (events_of changes u) f [] (sym events ∙ none));
      count = λ _. ap finishes events ∙ sum_by-append (λ (s : EventBody). cond (is_finish s.0) 1 0) (events_of changes u) (steps_at c o m) ∙ (omega arith ∙ r.count alive.0) ∙ ap (λ k. cond (is_whole k (length_of changes u)) 1 0) (sym offset) ∙ ap (λ q. cond (is_whole o q) 1 0) (sym size);
      goes = λ h. absurd (false≢true (sym h ∙ ended));
      ends = subst EndsOnce (sym events) (ends_append (events_of changes u) (steps_at c o m) goes (λ _. refl, tt));
    }

run_own : (changes : List Accepted) (c : Accepted) → IsSound changes (id_of c) → IsRun changes (id_of c) → CanFollow changes c → IsRun (changes ++ c ∷ []) (id_of c)
run_own changes (Created u n kind) s r can = run_created changes u n kind s can
run_own changes (Appended u n) s r can = run_appended changes u n r can
run_own changes (Declared u n k) s r can = run_declared changes u n k r can
run_own changes (Terminated u) s r can = run_terminated changes u r can

run_more : (changes : List Accepted) (c : Accepted) → ((u : ℕ) → IsSound changes u) → ((u : ℕ) → IsRun changes u) → CanFollow changes c → (u : ℕ) → IsRun (changes ++ c ∷ []) u
run_more changes c sounds runs can u =
    elim (eqb (id_of c) u) as (λ b. eqb (id_of c) u ≡ b → IsRun (changes ++ c ∷ []) u) [
      | true ↦ λ e. subst (IsRun (changes ++ c ∷ [])) (eqb-true (id_of c) u e) (run_own changes c (sounds (id_of c)) (runs (id_of c)) can)
      | false ↦ λ e. run_other changes c u (runs u) e
    ] refl

run_empty : (u : ℕ) → IsRun [] u
unfolding events_of gather kind_of first_given
run_empty u = record { begins = tt; some = λ h. absurd (false≢true h); count = λ h. absurd (false≢true h); goes = λ _. tt; ends = tt }

runs_both : (changes : List Accepted) → IsLegal changes → ((u : ℕ) → IsSound changes u) × ((u : ℕ) → IsRun changes u)
runs_both = legal_induction (λ changes. ((u : ℕ) → IsSound changes u) × ((u : ℕ) → IsRun changes u)) (sound_empty, run_empty) (λ before c was can. (sound_more before c was.0 can, run_more before c was.0 was.1 can))

pub run_of : (changes : List Accepted) → IsLegal changes → (u : ℕ) → IsRun changes u
run_of changes legal = (runs_both changes legal).1

-- ---- numbered events of such a run are lawful

first_create : (u n : ℕ) (steps : List EventBody) → Begins steps → (e : Event) (rest : List Event) → numbered u n steps ≡ e ∷ rest → e.hook ≡ Create
first_create u n [] b e rest is = absurd (cc)
first_create u n (s ∷ steps) b e rest is = let h : record { id = u; number = n + 1; hook = s.0; offset = s.1; length = s.2 } ≡ e = cc in ap (λ (e : Event). e.hook) (sym h) ∙ b

count_cons : (e : Event) (events : List Event) → count_by (λ (e : Event). is_finish e.hook) (e ∷ events) ≡ cond (is_finish e.hook) 1 0 + count_by (λ (e : Event). is_finish e.hook) events
count_cons e events = sum_by-append (λ (e : Event). cond (is_finish e.hook) 1 0) (e ∷ []) events ∙ omega arith

step_cons : (s : EventBody) (steps : List EventBody) → finishes (s ∷ steps) ≡ cond (is_finish s.0) 1 0 + finishes steps
step_cons s steps = sum_by-append (λ (s : EventBody). cond (is_finish s.0) 1 0) (s ∷ []) steps ∙ omega arith

count_numbered : (u n : ℕ) (steps : List EventBody) → count_by (λ (e : Event). is_finish e.hook) (numbered u n steps) ≡ finishes steps
count_numbered u n [] = refl
count_numbered u n (s ∷ steps) =
    count_cons (record { id = u; number = n + 1; hook = s.0; offset = s.1; length = s.2 }) (numbered u (n + 1) steps)
    ∙ ap (λ k. cond (is_finish s.0) 1 0 + k) (count_numbered u (n + 1) steps) ∙ sym (step_cons s steps)

nothing_numbered : (u n : ℕ) (steps : List EventBody) → steps ≡ [] → numbered u n steps ≡ []
nothing_numbered u n steps e = ap (numbered u n) e

last_end : (u n : ℕ) (steps : List EventBody) → EndsOnce steps → (front back : List Event) (e : Event) → numbered u n steps ≡ front ++ e ∷ back → e.hook ≡ Terminate → back ≡ []
last_end u n [] once [] back e is end = absurd (cc)
last_end u n [] once (f ∷ front) back e is end = absurd (cc)
last_end u n (s ∷ steps) once [] back e is end =
    let h : record { id = u; number = n + 1; hook = s.0; offset = s.1; length = s.2 } ≡ e = cc in
    let t : numbered u (n + 1) steps ≡ back = cc in
    sym t ∙ nothing_numbered u (n + 1) steps (once.0 (ap is_end (ap (λ (e : Event). e.hook) h ∙ end)))
last_end u n (s ∷ steps) once (f ∷ front) back e is end =
    let t : numbered u (n + 1) steps ≡ front ++ e ∷ back = cc in
    last_end u (n + 1) steps once.1 front back e t end

cond_le : (k : ℕ) (b : Bool) → k ≡ cond b 1 0 → k ≤ 1
cond_le k true e = omega arith
cond_le k false e = omega arith

at_most_one : (changes : List Accepted) (u : ℕ) → IsSound changes u → IsRun changes u → finishes (events_of changes u) ≤ 1
at_most_one changes u s r = elim (is_known changes u) as (λ b. is_known changes u ≡ b → finishes (events_of changes u) ≤ 1) [
  | true ↦ λ e. cond_le (finishes (events_of changes u)) (is_whole (offset_of changes u) (length_of changes u)) (r.count e)
  | false ↦ λ e. let z : finishes (events_of changes u) ≡ 0 = ap finishes (s.no_events e) in omega arith
] refl

pub lawful_numbered : (changes : List Accepted) → IsLegal changes → (u : ℕ) → IsLawfulRun (numbered u 0 (events_of changes u))
lawful_numbered changes legal u =
    let r = run_of changes legal u in
    record {
      numbers = counts-numbered u 0 (events_of changes u);
      first = first_create u 0 (events_of changes u) r.begins;
      one_finish = subst (λ k. k ≤ 1) (sym (count_numbered u 0 (events_of changes u))) (at_most_one changes u (sound changes legal u) r);
      last = last_end u 0 (events_of changes u) r.ends;
    }

pub lawful_log : (lanes u : ℕ) (changes : List Accepted) → IsLegal changes → IsLawfulRun (filter (is_of u) (log_of lanes changes (u % lanes)))
lawful_log lanes u changes legal = subst IsLawfulRun (sym (own_is lanes u changes)) (lawful_numbered changes legal u)

none_split : (front back : List Event) (e : Event) → [] ≡ front ++ e ∷ back → ⊥
none_split [] back e is = cc
none_split (f ∷ front) back e is = cc

lawful_none : IsLawfulRun []
lawful_none = record { numbers = tt; first = λ e rest is. absurd (cc); one_finish = omega arith; last = λ front back e is end. absurd (none_split front back e is) }

pub logs_lawful : (lanes k : ℕ) (changes : List Accepted) → IsLegal changes → IsLawful (log_of lanes changes k)
logs_lawful lanes k changes legal u =
    elim (eqb (u % lanes) k) as (λ b. eqb (u % lanes) k ≡ b → IsLawfulRun (filter (is_of u) (log_of lanes changes k))) [
      | true ↦ λ e. subst (λ j. IsLawfulRun (filter (is_of u) (log_of lanes changes j))) (eqb-true (u % lanes) k e) (lawful_log lanes u changes legal)
      | false ↦ λ e. subst IsLawfulRun (sym (own_away lanes u k changes e)) lawful_none
    ] refl
