-- The tracks of the uploads that are there, and the ids of those that were ended, after one more change.
use Rattle.std.proofs.Common.{◌≡◌, ℕ, Bool, true, false, cond, eqb, ◌&&◌, ◌||◌, not, Option, Some, None, is_some, unwrap_or, List, [], ◌∷◌, ◌++◌, refl, sym, ap, ◌∙◌, subst, arith}
use Rattle.std.proofs.lemmas.Bool.{eqb-true, false≢true}
use Rattle.std.proofs.lemmas.List.Folds.{list_any-append}
use Rattle.std.proofs.lemmas.Map.Lookups.{exact_unsigned}
use Rattle.std.specs.Ordering.{nat_cmp, is_eq}
use Rattle.std.specs.Cmp.{nat_cmp_total}
use Rattle.std.specs.BTreeMap.{BTreeMap, get, is_at, Updates}
use Rattle.std.specs.declared.cmp.Ordering.{Ordering}
use Rattle.std.specs.declared.cmp.Ordering.TheVariants.{Less, Equal, Greater}
use Rattle.up_events.specs.declared.event.Accepted.{Accepted}
use Rattle.up_events.specs.declared.event.Accepted.TheVariants.{Created, Appended, Declared, Terminated}
use Rattle.up_events.specs.declared.track.Track.{Track}
use Rattle.up_events.specs.declared.journal.Journal.TheInside.{Inside}
use Rattle.up_events.specs.Ascending.{has}
use Rattle.up_events.specs.History.{id_of, is_known, is_terminated, is_alive, ends, CanFollow}
use Rattle.up_events.specs.Reached.{track_left, ended_by}
use Rattle.up_events.specs.Kept.{IsKept, track_of}
use Rattle.up_events.proofs.HistoryLemmas.{kind_of-other, length_of-other, offset_of-other, events_of-other, is_terminated-other, is_terminated-snoc}
use Rattle.up_events.proofs.Sound.{IsSound, sound, alive_known, is_terminated-created, is_terminated-appended, is_terminated-declared, is_terminated-terminated, kind_of-created, kind_of-appended, kind_of-declared, kind_of-terminated, track_of-unknown}

-- ---- the table of tracks

at_known : (b : Bool) (t : Track) (o : Option Track) → o ≡ cond b (Some t) None → (b ≡ false → t ≡ record { events = 0; offset = 0; length = None }) → unwrap_or o (record { events = 0; offset = 0; length = None }) ≡ t
at_known true t o e h = ap (λ o. unwrap_or o (record { events = 0; offset = 0; length = None })) e
at_known false t o e h = ap (λ o. unwrap_or o (record { events = 0; offset = 0; length = None })) e ∙ sym (h refl)

and_true : (b : Bool) → (b && true) ≡ b
and_true true = refl
and_true false = refl

-- an upload that a change can follow wasn't ended
not_ended : (changes : List Accepted) (c : Accepted) → IsSound changes (id_of c) → CanFollow changes c → is_terminated changes (id_of c) ≡ false
not_ended changes (Created u n kind) s can = s.not_ended can.0
not_ended changes (Appended u n) s can = (alive_known (is_known changes u) (is_terminated changes u) can.0.0).1
not_ended changes (Declared u n k) s can = (alive_known (is_known changes u) (is_terminated changes u) can.0.0).1
not_ended changes (Terminated u) s can = (alive_known (is_known changes u) (is_terminated changes u) can).1

alive_is : (changes : List Accepted) (u : ℕ) → is_terminated changes u ≡ false → is_alive changes u ≡ is_known changes u
alive_is changes u e = ap (λ b. is_known changes u && not b) e ∙ and_true (is_known changes u)

pub track_found : (a : Inside) (c : Accepted) (u : ℕ) (o : Option Track) → IsKept a → CanFollow a.accepted.items c → u ≡ id_of c → o ≡ get nat_cmp a.tracks u → unwrap_or o (record { events = 0; offset = 0; length = None }) ≡ track_of a.accepted.items (id_of c)
track_found a c u o k can is e =
    let changes = a.accepted.items in
    let s = sound changes k.legal (id_of c) in
    let there = alive_is changes (id_of c) (not_ended changes c s can) in
    at_known (is_known changes (id_of c)) _ o
    (e ∙ ap (λ v. get nat_cmp a.tracks v) is ∙ k.tracks (id_of c) ∙ ap (λ b. cond b (Some (track_of changes (id_of c))) None) there)
    (track_of-unknown changes (id_of c) s)

equal_from : (r : Ordering) → is_eq r ≡ true → r ≡ Equal
equal_from Less e = absurd (false≢true e)
equal_from Equal e = refl
equal_from Greater e = absurd (false≢true e)

pub same_id : (k u : ℕ) → is_at (nat_cmp k) u ≡ true → k ≡ u
same_id k u e = exact_unsigned k u (equal_from (nat_cmp k u) e)

pub other_id : (k u : ℕ) → is_at (nat_cmp k) u ≡ false → eqb k u ≡ false
other_id k u e = elim (eqb k u) as (λ b. eqb k u ≡ b → b ≡ false) [ true ↦ λ h. absurd (false≢true (sym e ∙ grind (arith, eqb-true k u h, nat_cmp_total))) | false ↦ λ h. refl ] refl

pub known_after : (changes : List Accepted) (c : Accepted) → CanFollow changes c → is_known (changes ++ c ∷ []) (id_of c) ≡ true
known_after changes (Created u n kind) can = ap is_some (kind_of-created changes u n kind can.0)
known_after changes (Appended u n) can = ap is_some (kind_of-appended changes u n u) ∙ (alive_known (is_known changes u) (is_terminated changes u) can.0.0).0
known_after changes (Declared u n k) can = ap is_some (kind_of-declared changes u n k u) ∙ (alive_known (is_known changes u) (is_terminated changes u) can.0.0).0
known_after changes (Terminated u) can = ap is_some (kind_of-terminated changes u u) ∙ (alive_known (is_known changes u) (is_terminated changes u) can).0

there_after : (a b : Bool) (t : Track) → a ≡ true → b ≡ false → Some t ≡ cond (a && not b) (Some t) None
there_after a b t known there = rw (known, there) refl

gone_after : (a b : Bool) (t : Track) → b ≡ true → None ≡ cond (a && not b) (Some t) None
gone_after true b t gone = rw gone refl
gone_after false b t gone = refl

left_after : (changes : List Accepted) (c : Accepted) (t : Track) → IsSound changes (id_of c) → CanFollow changes c → track_left c t ≡ cond (is_alive (changes ++ c ∷ []) (id_of c)) (Some t) None
left_after changes (Created u n kind) t s can =
    there_after (is_known (changes ++ Created u n kind ∷ []) u) (is_terminated (changes ++ Created u n kind ∷ []) u) t (known_after changes (Created u n kind) can) (is_terminated-created changes u n u kind ∙ s.not_ended can.0)
left_after changes (Appended u n) t s can =
    there_after (is_known (changes ++ Appended u n ∷ []) u) (is_terminated (changes ++ Appended u n ∷ []) u) t (known_after changes (Appended u n) can) (is_terminated-appended changes u n u ∙ not_ended changes (Appended u n) s can)
left_after changes (Declared u n k) t s can =
    there_after (is_known (changes ++ Declared u n k ∷ []) u) (is_terminated (changes ++ Declared u n k ∷ []) u) t (known_after changes (Declared u n k) can) (is_terminated-declared changes u n k u ∙ not_ended changes (Declared u n k) s can)
left_after changes (Terminated u) t s can = gone_after (is_known (changes ++ Terminated u ∷ []) u) (is_terminated (changes ++ Terminated u ∷ []) u) t (is_terminated-terminated changes u)

unmoved : (changes : List Accepted) (c : Accepted) (u : ℕ) → eqb (id_of c) u ≡ false → cond (is_alive changes u) (Some (track_of changes u)) None ≡ cond (is_alive (changes ++ c ∷ []) u) (Some (track_of (changes ++ c ∷ []) u)) None
unmoved changes c u e = rw (kind_of-other changes c u e, is_terminated-other changes c u e, length_of-other changes c u e, events_of-other changes c u e, offset_of-other changes c u e) refl

pub tracks_after : (changes : List Accepted) (c : Accepted) (t : Track) (m n : BTreeMap ℕ Track) → IsSound changes (id_of c) → CanFollow changes c → ((u : ℕ) → get nat_cmp m u ≡ cond (is_alive changes u) (Some (track_of changes u)) None) → Updates nat_cmp m n (id_of c) (track_left c t) → t ≡ track_of (changes ++ c ∷ []) (id_of c) → (u : ℕ) → get nat_cmp n u ≡ cond (is_alive (changes ++ c ∷ []) u) (Some (track_of (changes ++ c ∷ []) u)) None
tracks_after changes c t m n s can before updates e u =
    updates.0 u ∙ elim (is_at (nat_cmp (id_of c)) u) as (λ b. is_at (nat_cmp (id_of c)) u ≡ b → cond b (track_left c t) (get nat_cmp m u) ≡ cond (is_alive (changes ++ c ∷ []) u) (Some (track_of (changes ++ c ∷ []) u)) None) [
      | true ↦ λ h. subst (λ v. track_left c t ≡ cond (is_alive (changes ++ c ∷ []) v) (Some (track_of (changes ++ c ∷ []) v)) None) (same_id _ _ h)
          (left_after changes c t s can ∙ ap (λ r. cond (is_alive (changes ++ c ∷ []) (id_of c)) (Some r) None) e)
      | false ↦ λ h. before u ∙ unmoved changes c u (other_id _ _ h)
    ] refl

-- ---- the ids of ended uploads

or_false : (b : Bool) → (b || false) ≡ b
or_false true = refl
or_false false = refl

ended_here : (c : Accepted) (u : ℕ) → has (ended_by c) u ≡ ends u c
ended_here (Created id n kind) u = refl
ended_here (Appended id n) u = refl
ended_here (Declared id n k) u = refl
ended_here (Terminated id) u = or_false (eqb id u)

pub ended_after : (changes : List Accepted) (c : Accepted) (old new : List ℕ) → ((u : ℕ) → has old u ≡ is_terminated changes u) → new ≡ old ++ ended_by c → (u : ℕ) → has new u ≡ is_terminated (changes ++ c ∷ []) u
ended_after changes c old new before is u =
    ap (λ ids. has ids u) is
    ∙ list_any-append (λ i. eqb i u) old (ended_by c)
    ∙ ap (λ b. b || has (ended_by c) u) (before u)
    ∙ ap (λ b. is_terminated changes u || b) (ended_here c u)
    ∙ sym (is_terminated-snoc changes c u)

some_if : {X : Type 0} (b : Bool) (x : X) → is_some (cond b (Some x) None) ≡ b
some_if true x = refl
some_if false x = refl

there_or_ended : (a b : Bool) → (a ≡ false → b ≡ false) → ((a && not b) || b) ≡ a
there_or_ended true true h = refl
there_or_ended true false h = refl
there_or_ended false true h = absurd (false≢true (sym (h refl)))
there_or_ended false false h = refl

-- an upload is known if it is there or was ended
known_is : (a : Inside) → IsKept a → (u : ℕ) → (is_some (get nat_cmp a.tracks u) || has a.ended u) ≡ is_known a.accepted.items u
known_is a k u =
    let changes = a.accepted.items in
    ap (λ b. b || has a.ended u) (ap is_some (k.tracks u) ∙ some_if (is_alive changes u) (track_of changes u))
    ∙ ap (λ b. is_alive changes u || b) (k.ended u)
    ∙ there_or_ended (is_known changes u) (is_terminated changes u) (sound changes k.legal u).not_ended

pub known_there : (a : Inside) → IsKept a → (u : ℕ) → is_some (get nat_cmp a.tracks u) ≡ true → is_known a.accepted.items u ≡ true
known_there a k u e = sym (known_is a k u) ∙ ap (λ b. b || has a.ended u) e

pub known_absent : (a : Inside) → IsKept a → (u : ℕ) → is_some (get nat_cmp a.tracks u) ≡ false → is_known a.accepted.items u ≡ has a.ended u
known_absent a k u e = sym (known_is a k u) ∙ ap (λ b. b || has a.ended u) e
