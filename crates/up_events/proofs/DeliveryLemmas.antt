-- Events of a lane's log that were handed over numbered 1, 2, 3 and so on are the first of their uploads' events.
use Rattle.std.proofs.Common.{◌≡◌, ℕ, ◌+◌, ◌≤◌, ◌<◌, ◌%◌, ◌⊎◌, inl, inr, Bool, true, false, cond, eqb, List, [], ◌∷◌, map, filter, zero, suc, refl, sym, ap, ◌∙◌, subst, arith, Contains}
use Rattle.std.proofs.lemmas.Bool.{eqb-true}
use Rattle.std.proofs.lemmas.List.{map-append}
use Rattle.std.proofs.lemmas.List.Elements.{Contains-append_left, Contains-append_right, Contains-push, Contains-append_cases}
use Rattle.up_events.specs.declared.event.Accepted.{Accepted}
use Rattle.up_events.specs.declared.event.Event.{Event}
use Rattle.up_events.specs.History.{EventBody, events_of}
use Rattle.up_events.specs.Log.{numbered, log_of, body_of, is_of, CountsFrom}
use Rattle.up_events.specs.Delivery.{IsWithin, IsPrefix, IsNumbered, IsDelivered}
use Rattle.up_events.proofs.LogLemmas.{own_is, own_away, steps-numbered}

-- ---- members, by cases

abbrev pub In : {X : Type 0} → List X → X → Type 0
In [] x = ⊥
In (y ∷ ys) x = (y ≡ x) ⊎ In ys x

single : {X : Type 0} (y x : X) → Contains (y ∷ []) x → y ≡ x
single y x (zero, h, e) = e
single y x (suc k, h, e) = absurd (let h : suc k < 1 = h in omega arith)

pub in_from : {X : Type 0} (xs : List X) (x : X) → Contains xs x → In xs x
in_from [] x (k, h, e) = absurd (let h : k < 0 = h in omega arith)
in_from (y ∷ ys) x c = elim (Contains-append_cases (y ∷ []) ys x c) [ inl h ↦ inl (single y x h) | inr h ↦ inr (in_from ys x h) ]

pub from_in : {X : Type 0} (xs : List X) (x : X) → In xs x → Contains xs x
from_in [] x h = absurd h
from_in (y ∷ ys) x (inl e) = subst (Contains (y ∷ ys)) e (Contains-append_left (y ∷ []) ys y (Contains-push [] y))
from_in (y ∷ ys) x (inr h) = Contains-append_right (y ∷ []) ys x (from_in ys x h)

-- ---- members that pass a test

keep_in : {X : Type 0} (p : X → Bool) (y : X) (ys : List X) (x : X) → p x ≡ true → In (y ∷ ys) x → (In ys x → In (filter p ys) x) → In (filter p (y ∷ ys)) x
keep_in p y ys x t (inl e) more = let h : p y ≡ true = ap p e ∙ t in rw h (inl e)
keep_in p y ys x t (inr h) more = elim (p y) as (λ b. In (cond b (y ∷ filter p ys) (filter p ys)) x) [ true ↦ inr (more h) | false ↦ more h ]

in_filter : {X : Type 0} (p : X → Bool) (ys : List X) (x : X) → p x ≡ true → In ys x → In (filter p ys) x
in_filter p [] x t h = h
in_filter p (y ∷ ys) x t h = keep_in p y ys x t h (in_filter p ys x t)

filter_cons : {X : Type 0} (p : X → Bool) (y : X) (ys : List X) (x : X) (b : Bool) → p y ≡ b → In (cond b (y ∷ filter p ys) (filter p ys)) x → (In (filter p ys) x → In ys x × (p x ≡ true)) → In (y ∷ ys) x × (p x ≡ true)
filter_cons p y ys x true is (inl e) more = (inl e, ap p (sym e) ∙ is)
filter_cons p y ys x true is (inr h) more = let m = more h in (inr m.0, m.1)
filter_cons p y ys x false is h more = let m = more h in (inr m.0, m.1)

of_filter : {X : Type 0} (p : X → Bool) (ys : List X) (x : X) → In (filter p ys) x → In ys x × (p x ≡ true)
of_filter p [] x h = absurd h
of_filter p (y ∷ ys) x h = filter_cons p y ys x (p y) refl h (of_filter p ys x)

-- ---- in the log just one event of an upload has the number n

above_counts : (n : ℕ) (mine : List Event) (e : Event) → CountsFrom n mine → In mine e → n + 1 ≤ e.number
above_counts n [] e c h = absurd h
above_counts n (f ∷ mine) e c (inl is) = let k : e.number ≡ n + 1 = ap (λ (e : Event). e.number) (sym is) ∙ c.0 in omega arith
above_counts n (f ∷ mine) e c (inr h) = let k : n + 1 + 1 ≤ e.number = above_counts (n + 1) mine e c.1 h in omega arith

above_numbered : (u n : ℕ) (steps : List EventBody) (e : Event) → In (numbered u n steps) e → n + 1 ≤ e.number
above_numbered u n [] e h = absurd h
above_numbered u n (s ∷ steps) e (inl is) = let k : e.number ≡ n + 1 = ap (λ (e : Event). e.number) (sym is) in omega arith
above_numbered u n (s ∷ steps) e (inr h) = let k : n + 1 + 1 ≤ e.number = above_numbered u (n + 1) steps e h in omega arith

-- an event with the first number is the first event
first_is : (u n : ℕ) (s : EventBody) (steps : List EventBody) (e : Event) → e.number ≡ n + 1 → In (numbered u n (s ∷ steps)) e → record { id = u; number = n + 1; hook = s.0; offset = s.1; length = s.2 } ≡ e
first_is u n s steps e k (inl is) = is
first_is u n s steps e k (inr h) = absurd (let a : n + 1 + 1 ≤ e.number = above_numbered u (n + 1) steps e h in omega arith)

-- an event with a later number is a later event
later_in : (u n : ℕ) (s : EventBody) (steps : List EventBody) (e : Event) → n + 1 + 1 ≤ e.number → In (numbered u n (s ∷ steps)) e → In (numbered u (n + 1) steps) e
later_in u n s steps e k (inl is) = absurd (let a : e.number ≡ n + 1 = ap (λ (e : Event). e.number) (sym is) in omega arith)
later_in u n s steps e k (inr h) = h

counts_prefix : (u n : ℕ) (steps : List EventBody) (mine : List Event) → CountsFrom n mine → ((e : Event) → In mine e → In (numbered u n steps) e) → IsPrefix mine (numbered u n steps)
counts_prefix u n steps [] c within = (numbered u n steps, refl)
counts_prefix u n [] (e ∷ mine) c within = absurd (within e (inl refl))
counts_prefix u n (s ∷ steps) (e ∷ mine) c within =
    let is = first_is u n s steps e c.0 (within e (inl refl)) in
    let rest : IsPrefix mine (numbered u (n + 1) steps) = counts_prefix u (n + 1) steps mine c.1 (λ f h. later_in u n s steps f (above_counts (n + 1) mine f c.1 h) (within f (inr h))) in
    (rest.0, ap (λ f. f ∷ numbered u (n + 1) steps) is ∙ ap (λ l. e ∷ l) rest.1)

-- ---- without ids and numbers

prefix_steps : (u : ℕ) (steps : List EventBody) (mine : List Event) → IsPrefix mine (numbered u 0 steps) → IsPrefix (map body_of mine) steps
prefix_steps u steps mine p = (map body_of p.0, sym (steps-numbered u 0 steps) ∙ ap (map body_of) p.1 ∙ map-append body_of mine p.0)

-- what a lane handed of an upload is in the upload's own numbered events, whichever lane it is
own_within : (lanes k u : ℕ) (changes : List Accepted) (handed : List Event) → IsWithin handed (log_of lanes changes k) → (e : Event) → In (filter (is_of u) handed) e → In (numbered u 0 (events_of changes u)) e
own_within lanes k u changes handed within e h =
    let m = of_filter (is_of u) handed e h in
    let there : In (filter (is_of u) (log_of lanes changes k)) e = in_filter (is_of u) (log_of lanes changes k) e m.1 (in_from (log_of lanes changes k) e (within e (from_in handed e m.0))) in
    elim (eqb (u % lanes) k) as (λ b. eqb (u % lanes) k ≡ b → In (numbered u 0 (events_of changes u)) e) [
      | true ↦ λ is. let at : In (filter (is_of u) (log_of lanes changes (u % lanes))) e = subst (λ j. In (filter (is_of u) (log_of lanes changes j)) e) (sym (eqb-true (u % lanes) k is)) there in
          subst (λ l. In l e) (own_is lanes u changes) at
      | false ↦ λ is. let none : In [] e = subst (λ l. In l e) (own_away lanes u k changes is) there in absurd none
    ] refl

pub delivered : (lanes k : ℕ) (changes : List Accepted) (handed : List Event) → IsWithin handed (log_of lanes changes k) → IsNumbered handed → IsDelivered changes handed
delivered lanes k changes handed within numbered u =
    prefix_steps u (events_of changes u) (filter (is_of u) handed) (counts_prefix u 0 (events_of changes u) (filter (is_of u) handed) (numbered u) (own_within lanes k u changes handed within))
