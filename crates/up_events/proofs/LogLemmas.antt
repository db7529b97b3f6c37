-- The events of an upload in the log of its lane are that upload's events, in order, numbered 1, 2, 3 and so on.
use Rattle.std.proofs.Common.{◌≡◌, ℕ, ◌+◌, ◌%◌, Bool, true, false, cond, eqb, List, [], ◌∷◌, ◌++◌, length, map, filter, refl, sym, ap, ◌∙◌, subst, arith, append_assoc, zero-add}
use Rattle.std.proofs.lemmas.Bool.{eqb-true, eq-eqb}
use Rattle.up_events.specs.declared.event.Accepted.{Accepted}
use Rattle.up_events.specs.declared.event.Event.{Event}
use Rattle.up_events.specs.Lists.{gather}
use Rattle.up_events.specs.History.{id_of, EventBody, steps_of, events_of}
use Rattle.up_events.specs.Log.{numbered, log_of, body_of, is_of, CountsFrom}
use Rattle.up_events.proofs.HistoryLemmas.{append_nil, log_of-snoc, events_of-other}
use Rattle.up_events.proofs.Sound.{events_of-own}

-- ---- induction from the back

from_back : {X : Type 0} (P : List X → Type 0) → ((before : List X) (x : X) → P before → P (before ++ x ∷ [])) → (before rest : List X) → P before → P (before ++ rest)
from_back P more before [] here = subst P (sym (append_nil before)) here
from_back P more before (x ∷ rest) here = subst P (append_assoc before (x ∷ []) rest) (from_back P more (before ++ x ∷ []) rest (more before x here))

-- ---- numbered events

numbered-append : (u n : ℕ) (xs ys : List EventBody) → numbered u n (xs ++ ys) ≡ numbered u n xs ++ numbered u (n + length xs) ys
numbered-append u n [] ys = ap (λ k. numbered u k ys) (omega arith)
numbered-append u n (s ∷ xs) ys = ap (λ l. record { id = u; number = n + 1; hook = s.0; offset = s.1; length = s.2 } ∷ l) (numbered-append u (n + 1) xs ys ∙ ap (λ k. numbered u (n + 1) xs ++ numbered u k ys) (omega arith))

pub filter-append : (p : Event → Bool) (xs ys : List Event) → filter p (xs ++ ys) ≡ filter p xs ++ filter p ys
filter-append p [] ys = refl
filter-append p (x ∷ xs) ys = elim (p x) as (λ b. cond b (x ∷ filter p (xs ++ ys)) (filter p (xs ++ ys)) ≡ cond b (x ∷ filter p xs) (filter p xs) ++ filter p ys) [ true ↦ ap (λ l. x ∷ l) (filter-append p xs ys) | false ↦ filter-append p xs ys ]

own-numbered : (u n : ℕ) (steps : List EventBody) → filter (is_of u) (numbered u n steps) ≡ numbered u n steps
own-numbered u n [] = refl
own-numbered u n (s ∷ steps) = ap (λ b. cond b (record { id = u; number = n + 1; hook = s.0; offset = s.1; length = s.2 } ∷ filter (is_of u) (numbered u (n + 1) steps)) (filter (is_of u) (numbered u (n + 1) steps))) (eq-eqb u u refl)
    ∙ ap (λ l. record { id = u; number = n + 1; hook = s.0; offset = s.1; length = s.2 } ∷ l) (own-numbered u (n + 1) steps)

other-numbered : (u v n : ℕ) (steps : List EventBody) → eqb v u ≡ false → filter (is_of u) (numbered v n steps) ≡ []
other-numbered u v n [] e = refl
other-numbered u v n (s ∷ steps) e = ap (λ b. cond b (record { id = v; number = n + 1; hook = s.0; offset = s.1; length = s.2 } ∷ filter (is_of u) (numbered v (n + 1) steps)) (filter (is_of u) (numbered v (n + 1) steps))) e ∙ other-numbered u v (n + 1) steps e

pub steps-numbered : (u n : ℕ) (steps : List EventBody) → map body_of (numbered u n steps) ≡ steps
steps-numbered u n [] = refl
steps-numbered u n (s ∷ steps) = ap (λ l. s ∷ l) (steps-numbered u (n + 1) steps)

pub counts-numbered : (u n : ℕ) (steps : List EventBody) → CountsFrom n (numbered u n steps)
counts-numbered u n [] = tt
counts-numbered u n (s ∷ steps) = (refl, counts-numbered u (n + 1) steps)

-- ---- the events of one upload in the log of its lane

OwnIs : ℕ → ℕ → List Accepted → Type 0
OwnIs lanes u changes = filter (is_of u) (log_of lanes changes (u % lanes)) ≡ numbered u 0 (events_of changes u)

none_of_other : (b : Bool) (u v n : ℕ) (steps : List EventBody) → eqb v u ≡ false → filter (is_of u) (cond b (numbered v n steps) []) ≡ []
none_of_other true u v n steps e = other-numbered u v n steps e
none_of_other false u v n steps e = refl

own_same : (lanes u : ℕ) (before : List Accepted) (c : Accepted) → id_of c ≡ u → numbered u 0 (events_of before u) ++ filter (is_of u) (cond (eqb (id_of c % lanes) (u % lanes)) (numbered (id_of c) (length (events_of before (id_of c))) (steps_of before c)) []) ≡ numbered u 0 (events_of (before ++ c ∷ []) u)
own_same lanes u before c e =
    subst (λ v. numbered v 0 (events_of before v) ++ filter (is_of v) (cond (eqb (id_of c % lanes) (v % lanes)) (numbered (id_of c) (length (events_of before (id_of c))) (steps_of before c)) []) ≡ numbered v 0 (events_of (before ++ c ∷ []) v)) e
    (ap (λ b. numbered (id_of c) 0 (events_of before (id_of c)) ++ filter (is_of (id_of c)) (cond b (numbered (id_of c) (length (events_of before (id_of c))) (steps_of before c)) [])) (eq-eqb (id_of c % lanes) (id_of c % lanes) refl)
    ∙ ap (λ l. numbered (id_of c) 0 (events_of before (id_of c)) ++ l) (own-numbered (id_of c) (length (events_of before (id_of c))) (steps_of before c))
    ∙ sym (numbered-append (id_of c) 0 (events_of before (id_of c)) (steps_of before c) ∙ ap (λ k. numbered (id_of c) 0 (events_of before (id_of c)) ++ numbered (id_of c) k (steps_of before c)) (zero-add (length (events_of before (id_of c)))))
    ∙ ap (numbered (id_of c) 0) (sym (events_of-own before c)))

own_more : (lanes u : ℕ) (before : List Accepted) (c : Accepted) → OwnIs lanes u before → OwnIs lanes u (before ++ c ∷ [])
unfolding OwnIs
own_more lanes u before c was =
    let added : List Event = numbered (id_of c) (length (events_of before (id_of c))) (steps_of before c) in
    ap (filter (is_of u)) (log_of-snoc lanes before c (u % lanes))
    ∙ filter-append (is_of u) (log_of lanes before (u % lanes)) (cond (eqb (id_of c % lanes) (u % lanes)) added [])
    ∙ ap (λ l. l ++ filter (is_of u) (cond (eqb (id_of c % lanes) (u % lanes)) added [])) was
    ∙ elim (eqb (id_of c) u) as (λ b. eqb (id_of c) u ≡ b → numbered u 0 (events_of before u) ++ filter (is_of u) (cond (eqb (id_of c % lanes) (u % lanes)) added []) ≡ numbered u 0 (events_of (before ++ c ∷ []) u)) [
      | true ↦ λ e. own_same lanes u before c (eqb-true (id_of c) u e)
      | false ↦ λ e. ap (λ l. numbered u 0 (events_of before u) ++ l) (none_of_other (eqb (id_of c % lanes) (u % lanes)) u (id_of c) (length (events_of before (id_of c))) (steps_of before c) e) ∙ append_nil _ ∙ ap (numbered u 0) (sym (events_of-other before c u e))
    ] refl

pub own_is : (lanes u : ℕ) (changes : List Accepted) → filter (is_of u) (log_of lanes changes (u % lanes)) ≡ numbered u 0 (events_of changes u)
unfolding OwnIs log_of events_of gather
own_is lanes u changes = from_back (OwnIs lanes u) (own_more lanes u) [] changes refl

-- the events of an upload in the log of its lane, without ids and numbers, are the upload's events
pub log_steps : (lanes u : ℕ) (changes : List Accepted) → map body_of (filter (is_of u) (log_of lanes changes (u % lanes))) ≡ events_of changes u
log_steps lanes u changes = ap (map body_of) (own_is lanes u changes) ∙ steps-numbered u 0 (events_of changes u)

-- ---- an upload has no event in another lane's log

away_more : (lanes u k : ℕ) → eqb (u % lanes) k ≡ false → (before : List Accepted) (c : Accepted) → filter (is_of u) (log_of lanes before k) ≡ [] → filter (is_of u) (log_of lanes (before ++ c ∷ []) k) ≡ []
away_more lanes u k apart before c was =
    let added : List Event = numbered (id_of c) (length (events_of before (id_of c))) (steps_of before c) in
    ap (filter (is_of u)) (log_of-snoc lanes before c k)
    ∙ filter-append (is_of u) (log_of lanes before k) (cond (eqb (id_of c % lanes) k) added [])
    ∙ ap (λ l. l ++ filter (is_of u) (cond (eqb (id_of c % lanes) k) added [])) was
    ∙ elim (eqb (id_of c) u) as (λ b. eqb (id_of c) u ≡ b → filter (is_of u) (cond (eqb (id_of c % lanes) k) added []) ≡ []) [
      | true ↦ λ e. ap (λ b. filter (is_of u) (cond b added [])) (ap (λ v. eqb (v % lanes) k) (eqb-true (id_of c) u e) ∙ apart)
      | false ↦ λ e. none_of_other (eqb (id_of c % lanes) k) u (id_of c) (length (events_of before (id_of c))) (steps_of before c) e
    ] refl

pub own_away : (lanes u k : ℕ) (changes : List Accepted) → eqb (u % lanes) k ≡ false → filter (is_of u) (log_of lanes changes k) ≡ []
unfolding log_of gather
own_away lanes u k changes apart = from_back (λ l. filter (is_of u) (log_of lanes l k) ≡ []) (away_more lanes u k apart) [] changes refl
