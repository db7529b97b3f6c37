-- What a legal list says of each upload, and what the step of the journal computes.
use Rattle.std.proofs.Common.{◌≡◌, ℕ, ◌+◌, ◌*◌, ◌^◌, ◌≤◌, Bool, true, false, cond, eqb, ◌||◌, ◌&&◌, not, Option, Some, None, is_some, unwrap_or, List, [], ◌∷◌, ◌++◌, length, zero, suc, refl, sym, ap, ◌∙◌, subst, arith, length-append}
use Rattle.std.proofs.lemmas.Bool.{eqb-true, eq-eqb, false≢true}
use Rattle.std.specs.Option.{option_or}
use Rattle.up_events.specs.History.{id_of, kind_of, length_of, received, is_final, is_final_kind, offset_of, is_known, is_terminated, max_length_of, CanFollow, IsLegal, EventBody, is_whole, finish_at, steps_at, steps_of, events_of}
use Rattle.up_events.specs.declared.event.Accepted.{Accepted}
use Rattle.up_events.specs.declared.event.Accepted.TheVariants.{Created, Appended, Declared, Terminated}
use Rattle.up_events.specs.declared.event.Hook.TheVariants.{Receive, Finish}
use Rattle.up_events.specs.Lists.{gather, first_given}
use Rattle.up_events.specs.declared.event.Kind.{Kind}
use Rattle.up_events.specs.declared.event.Kind.TheVariants.{Plain, Partial, Final}
use Rattle.up_events.proofs.HistoryLemmas.{or_none, legal_induction, kind_of-snoc, length_of-snoc, received-snoc, is_terminated-snoc, events_of-snoc, kind_of-other, length_of-other, received-other, offset_of-other, is_terminated-other, events_of-other}
use Rattle.up_events.specs.Reached.{reached}
use Rattle.up_events.specs.Kept.{track_of}

-- ---- the upload of the change itself

eqb-same : (u : ℕ) → eqb u u ≡ true
eqb-same u = eq-eqb u u refl

none_from : {X : Type 0} (o : Option X) → is_some o ≡ false → o ≡ None
none_from None e = refl
none_from (Some x) e = absurd (false≢true (sym e))

pub kind_of-created : (changes : List Accepted) (u : ℕ) (n : Option ℕ) (kind : Kind) → is_known changes u ≡ false → kind_of (changes ++ Created u n kind ∷ []) u ≡ Some kind
kind_of-created changes u n kind new =
    kind_of-snoc changes (Created u n kind) u
    ∙ ap (λ o. option_or o (cond (eqb u u) (Some kind) None)) (none_from (kind_of changes u) new)
    ∙ ap (λ b. cond b (Some kind) None) (eqb-same u)

pub length_of-created : (changes : List Accepted) (u : ℕ) (n : Option ℕ) (kind : Kind) → length_of changes u ≡ None → length_of (changes ++ Created u n kind ∷ []) u ≡ n
length_of-created changes u n kind new =
    length_of-snoc changes (Created u n kind) u
    ∙ ap (λ o. option_or o (cond (eqb u u) n None)) new
    ∙ ap (λ b. cond b n None) (eqb-same u)

pub kind_of-appended : (changes : List Accepted) (v n u : ℕ) → kind_of (changes ++ Appended v n ∷ []) u ≡ kind_of changes u
kind_of-appended changes v n u = kind_of-snoc changes (Appended v n) u ∙ or_none _

pub length_of-appended : (changes : List Accepted) (v n u : ℕ) → length_of (changes ++ Appended v n ∷ []) u ≡ length_of changes u
length_of-appended changes v n u = length_of-snoc changes (Appended v n) u ∙ or_none _

pub kind_of-declared : (changes : List Accepted) (v n k u : ℕ) → kind_of (changes ++ Declared v n k ∷ []) u ≡ kind_of changes u
kind_of-declared changes v n k u = kind_of-snoc changes (Declared v n k) u ∙ or_none _

pub length_of-declared : (changes : List Accepted) (u n k : ℕ) → length_of changes u ≡ None → length_of (changes ++ Declared u n k ∷ []) u ≡ Some n
length_of-declared changes u n k none =
    length_of-snoc changes (Declared u n k) u
    ∙ ap (λ o. option_or o (cond (eqb u u) (Some n) None)) none
    ∙ ap (λ b. cond b (Some n) None) (eqb-same u)

pub kind_of-terminated : (changes : List Accepted) (v u : ℕ) → kind_of (changes ++ Terminated v ∷ []) u ≡ kind_of changes u
kind_of-terminated changes v u = kind_of-snoc changes (Terminated v) u ∙ or_none _

pub length_of-terminated : (changes : List Accepted) (v u : ℕ) → length_of (changes ++ Terminated v ∷ []) u ≡ length_of changes u
length_of-terminated changes v u = length_of-snoc changes (Terminated v) u ∙ or_none _

pub received-appended : (changes : List Accepted) (u n : ℕ) → received (changes ++ Appended u n ∷ []) u ≡ received changes u + n
received-appended changes u n = received-snoc changes (Appended u n) u ∙ ap (λ b. received changes u + cond b n 0) (eqb-same u)

pub received-declared : (changes : List Accepted) (u n k : ℕ) → received (changes ++ Declared u n k ∷ []) u ≡ received changes u + k
received-declared changes u n k = received-snoc changes (Declared u n k) u ∙ ap (λ b. received changes u + cond b k 0) (eqb-same u)

pub received-created : (changes : List Accepted) (v : ℕ) (n : Option ℕ) (u : ℕ) (kind : Kind) → received (changes ++ Created v n kind ∷ []) u ≡ received changes u
received-created changes v n u kind = omega (arith, received-snoc changes (Created v n kind) u)

pub received-terminated : (changes : List Accepted) (v u : ℕ) → received (changes ++ Terminated v ∷ []) u ≡ received changes u
received-terminated changes v u = omega (arith, received-snoc changes (Terminated v) u)

or_false : (b : Bool) → (b || false) ≡ b
or_false true = refl
or_false false = refl

or_true : (b : Bool) → (b || true) ≡ true
or_true true = refl
or_true false = refl

pub is_terminated-created : (changes : List Accepted) (v : ℕ) (n : Option ℕ) (u : ℕ) (kind : Kind) → is_terminated (changes ++ Created v n kind ∷ []) u ≡ is_terminated changes u
is_terminated-created changes v n u kind = is_terminated-snoc changes (Created v n kind) u ∙ or_false _

pub is_terminated-appended : (changes : List Accepted) (v n u : ℕ) → is_terminated (changes ++ Appended v n ∷ []) u ≡ is_terminated changes u
is_terminated-appended changes v n u = is_terminated-snoc changes (Appended v n) u ∙ or_false _

pub is_terminated-declared : (changes : List Accepted) (v n k u : ℕ) → is_terminated (changes ++ Declared v n k ∷ []) u ≡ is_terminated changes u
is_terminated-declared changes v n k u = is_terminated-snoc changes (Declared v n k) u ∙ or_false _

pub is_terminated-terminated : (changes : List Accepted) (u : ℕ) → is_terminated (changes ++ Terminated u ∷ []) u ≡ true
is_terminated-terminated changes u = is_terminated-snoc changes (Terminated u) u ∙ ap (λ b. is_terminated changes u || b) (eqb-same u) ∙ or_true _

pub events_of-own : (changes : List Accepted) (c : Accepted) → events_of (changes ++ c ∷ []) (id_of c) ≡ events_of changes (id_of c) ++ steps_of changes c
events_of-own changes c = events_of-snoc changes c (id_of c) ∙ ap (λ b. events_of changes (id_of c) ++ cond b (steps_of changes c) []) (eqb-same (id_of c))

-- ---- offsets

pub offset_of-created : (changes : List Accepted) (u : ℕ) (n : Option ℕ) (kind : Kind) → is_known changes u ≡ false → length_of changes u ≡ None → received changes u ≡ 0 → offset_of (changes ++ Created u n kind ∷ []) u ≡ cond (is_final_kind kind) (unwrap_or n 0) 0
unfolding offset_of
offset_of-created changes u n kind new unsaid none = rw (kind_of-created changes u n kind new, length_of-created changes u n kind unsaid, received-created changes u n u kind, none) refl

pub offset_of-appended : (changes : List Accepted) (u n : ℕ) → is_final (kind_of changes u) ≡ false → offset_of (changes ++ Appended u n ∷ []) u ≡ offset_of changes u + n
unfolding offset_of
offset_of-appended changes u n plain = rw (kind_of-appended changes u n u, received-appended changes u n, plain) refl

pub offset_of-declared : (changes : List Accepted) (u n k : ℕ) → is_final (kind_of changes u) ≡ false → offset_of (changes ++ Declared u n k ∷ []) u ≡ offset_of changes u + k
unfolding offset_of
offset_of-declared changes u n k plain = rw (kind_of-declared changes u n k u, received-declared changes u n k, plain) refl

pub offset_of-terminated : (changes : List Accepted) (v u : ℕ) → offset_of (changes ++ Terminated v ∷ []) u ≡ offset_of changes u
unfolding offset_of
offset_of-terminated changes v u = rw (kind_of-terminated changes v u, length_of-terminated changes v u, received-terminated changes v u) refl

pub offset_of-plain : (changes : List Accepted) (u : ℕ) → is_final (kind_of changes u) ≡ false → offset_of changes u ≡ received changes u
unfolding offset_of
offset_of-plain changes u plain = rw plain refl

-- ---- what holds of each upload of a legal list

pub record IsSound (changes : List Accepted) (u : ℕ) : Type 0 where
  pub no_events : is_known changes u ≡ false → events_of changes u ≡ []
  pub no_length : is_known changes u ≡ false → length_of changes u ≡ None
  pub no_bytes : is_known changes u ≡ false → received changes u ≡ 0
  pub not_ended : is_known changes u ≡ false → is_terminated changes u ≡ false
  pub few : length (events_of changes u) ≤ 2 * received changes u + cond (is_some (length_of changes u)) 2 1 + cond (is_terminated changes u) 1 0
  pub within : offset_of changes u ≤ max_length_of (length_of changes u)
  pub final : is_final (kind_of changes u) ≡ true → received changes u ≡ 0
  pub small : max_length_of (length_of changes u) ≤ 2 ^ 30

pub sound_empty : (u : ℕ) → IsSound [] u
unfolding events_of gather kind_of length_of first_given received is_terminated offset_of
sound_empty u = record { no_events = λ _. refl; no_length = λ _. refl; no_bytes = λ _. refl; not_ended = λ _. refl; few = omega arith; within = omega arith; final = λ _. refl; small = omega arith }

sound_other : (changes : List Accepted) (c : Accepted) (u : ℕ) → IsSound changes u → eqb (id_of c) u ≡ false → IsSound (changes ++ c ∷ []) u
sound_other changes c u s e =
    let kind = kind_of-other changes c u e in
    let size = length_of-other changes c u e in
    let events = events_of-other changes c u e in
    let bytes = received-other changes c u e in
    let ended = is_terminated-other changes c u e in
    let offset = offset_of-other changes c u e in
    record {
      no_events = rw (kind, events) s.no_events;
      no_length = rw (kind, size) s.no_length;
      no_bytes = rw (kind, bytes) s.no_bytes;
      not_ended = rw (kind, ended) s.not_ended;
      few = rw (events, bytes, size, ended) s.few;
      within = rw (offset, size) s.within;
      final = rw (kind, bytes) s.final;
      small = rw size s.small;
    }

-- what isn't 0 is at least 1
positive : (k : ℕ) → eqb k 0 ≡ false → 1 ≤ k
positive zero e = absurd (false≢true (sym e))
positive (suc k) e = omega arith

one_at_most : {X : Type 0} (b : Bool) (x : X) → length (cond b (x ∷ []) []) ≤ 1
one_at_most true x = omega arith
one_at_most false x = omega arith

finish_le : (offset : ℕ) (n : Option ℕ) → length (finish_at offset n) ≤ 1
finish_le offset n = one_at_most (is_whole offset n) (Finish, offset, n)

-- only a length that is known makes two events of a creation
created_le : (u : ℕ) (kind : Kind) (offset : ℕ) (n : Option ℕ) → length (steps_at (Created u n kind) offset n) ≤ cond (is_some n) 2 1
created_le u kind offset None = omega arith
created_le u kind offset (Some n) = omega (arith, finish_le offset (Some n))

-- a declaration without bytes makes at most one event
declared_le : (u n k offset : ℕ) (size : Option ℕ) → length (steps_at (Declared u n k) offset size) ≤ 2 * k + 1
declared_le u n k offset size =
    elim (eqb k 0) as (λ b. eqb k 0 ≡ b → length (cond b [] (let s : EventBody = (Receive, offset, size) in s ∷ []) ++ finish_at offset size) ≤ 2 * k + 1) [
      | true ↦ λ e. omega (arith, finish_le offset size)
      | false ↦ λ e. let some = positive k e in omega (arith, finish_le offset size)
    ] refl

steps_le : (c : Accepted) (offset : ℕ) (n : Option ℕ) → length (steps_at c offset n) ≤ 2
steps_le (Created u m kind) offset n = omega (arith, finish_le offset n)
steps_le (Appended u m) offset n = omega (arith, finish_le offset n)
steps_le (Declared u m k) offset n = elim (eqb k 0) as (λ b. length (cond b [] (let s : EventBody = (Receive, offset, n) in s ∷ []) ++ finish_at offset n) ≤ 2) [ true ↦ omega (arith, finish_le offset n) | false ↦ omega (arith, finish_le offset n) ]
steps_le (Terminated u) offset n = omega arith

-- an upload whose kind is there is known
known_some : (o : Option Kind) (p : Kind) → o ≡ Some p → is_some o ≡ false → ⊥
known_some o p e h = false≢true (sym h ∙ ap is_some e)

pub alive_known : (a b : Bool) → (a && not b) ≡ true → (a ≡ true) × (b ≡ false)
alive_known true true e = absurd (false≢true e)
alive_known true false e = (refl, refl)
alive_known false b e = absurd (false≢true e)

more_events : (changes : List Accepted) (c : Accepted) → length (events_of (changes ++ c ∷ []) (id_of c)) ≡ length (events_of changes (id_of c)) + length (steps_of changes c)
more_events changes c = ap length (events_of-own changes c) ∙ length-append (events_of changes (id_of c)) (steps_of changes c)

created_within : (kind : Kind) (n : Option ℕ) → cond (is_final_kind kind) (unwrap_or n 0) 0 ≤ max_length_of n
created_within Plain n = omega arith
created_within Partial n = omega arith
created_within Final None = omega arith
created_within Final (Some n) = omega arith

sound_created : (changes : List Accepted) (u : ℕ) (n : Option ℕ) (kind : Kind) → IsSound changes u → CanFollow changes (Created u n kind) → IsSound (changes ++ Created u n kind ∷ []) u
sound_created changes u n kind s can =
    let known = kind_of-created changes u n kind can.0 in
    let size = length_of-created changes u n kind (s.no_length can.0) in
    let bytes : received (changes ++ Created u n kind ∷ []) u ≡ 0 = received-created changes u n u kind ∙ s.no_bytes can.0 in
    let ended : is_terminated (changes ++ Created u n kind ∷ []) u ≡ false = is_terminated-created changes u n u kind ∙ s.not_ended can.0 in
    let offset = offset_of-created changes u n kind can.0 (s.no_length can.0) (s.no_bytes can.0) in
    let before : length (events_of changes u) ≡ 0 = ap length (s.no_events can.0) in
    let steps : length (steps_of changes (Created u n kind)) ≤ cond (is_some n) 2 1 = rw size (created_le u kind (offset_of (changes ++ Created u n kind ∷ []) u) n) in
    record {
      no_events = λ h. absurd (known_some _ _ known h);
      no_length = λ h. absurd (known_some _ _ known h);
      no_bytes = λ h. absurd (known_some _ _ known h);
      not_ended = λ h. absurd (known_some _ _ known h);
      few = rw (bytes, size, ended) (omega (arith, more_events changes (Created u n kind), before, steps));
      within = rw (offset, size) (created_within kind n);
      final = λ _. bytes;
      small = rw size can.1;
    }

sound_appended : (changes : List Accepted) (u n : ℕ) → IsSound changes u → CanFollow changes (Appended u n) → IsSound (changes ++ Appended u n ∷ []) u
sound_appended changes u n s can =
    let alive = alive_known (is_known changes u) (is_terminated changes u) can.0.0 in
    let known = kind_of-appended changes u n u in
    let size = length_of-appended changes u n u in
    let bytes = received-appended changes u n in
    let ended : is_terminated (changes ++ Appended u n ∷ []) u ≡ false = is_terminated-appended changes u n u ∙ alive.1 in
    let offset = offset_of-appended changes u n can.0.1 in
    let few : length (events_of changes u) ≤ 2 * received changes u + cond (is_some (length_of changes u)) 2 1 + 0 = rw alive.1 at s.few in
    let still : is_known (changes ++ Appended u n ∷ []) u ≡ true = ap is_some known ∙ alive.0 in
    let steps = steps_le (Appended u n) (offset_of (changes ++ Appended u n ∷ []) u) (length_of (changes ++ Appended u n ∷ []) u) in
    record {
      no_events = λ h. absurd (false≢true (sym h ∙ still));
      no_length = λ h. absurd (false≢true (sym h ∙ still));
      no_bytes = λ h. absurd (false≢true (sym h ∙ still));
      not_ended = λ h. absurd (false≢true (sym h ∙ still));
      few = rw (bytes, size, ended) (omega (arith, more_events changes (Appended u n), can.1, steps));
      within = rw (offset, size) can.2;
      final = λ h. absurd (false≢true (sym can.0.1 ∙ ap is_final (sym known) ∙ h));
      small = rw size s.small;
    }

sound_declared : (changes : List Accepted) (u n k : ℕ) → IsSound changes u → CanFollow changes (Declared u n k) → IsSound (changes ++ Declared u n k ∷ []) u
sound_declared changes u n k s can =
    let alive = alive_known (is_known changes u) (is_terminated changes u) can.0.0 in
    let known = kind_of-declared changes u n k u in
    let size = length_of-declared changes u n k can.1 in
    let bytes = received-declared changes u n k in
    let ended : is_terminated (changes ++ Declared u n k ∷ []) u ≡ false = is_terminated-declared changes u n k u ∙ alive.1 in
    let offset = offset_of-declared changes u n k can.0.1 in
    let few : length (events_of changes u) ≤ 2 * received changes u + 1 + 0 = rw (alive.1, can.1) at s.few in
    let still : is_known (changes ++ Declared u n k ∷ []) u ≡ true = ap is_some known ∙ alive.0 in
    let steps = declared_le u n k (offset_of (changes ++ Declared u n k ∷ []) u) (length_of (changes ++ Declared u n k ∷ []) u) in
    record {
      no_events = λ h. absurd (false≢true (sym h ∙ still));
      no_length = λ h. absurd (false≢true (sym h ∙ still));
      no_bytes = λ h. absurd (false≢true (sym h ∙ still));
      not_ended = λ h. absurd (false≢true (sym h ∙ still));
      few = rw (bytes, size, ended) (omega (arith, more_events changes (Declared u n k), steps));
      within = rw (offset, size) can.2;
      final = λ h. absurd (false≢true (sym can.0.1 ∙ ap is_final (sym known) ∙ h));
      small = rw size can.3;
    }

sound_terminated : (changes : List Accepted) (u : ℕ) → IsSound changes u → CanFollow changes (Terminated u) → IsSound (changes ++ Terminated u ∷ []) u
sound_terminated changes u s can =
    let alive = alive_known (is_known changes u) (is_terminated changes u) can in
    let known = kind_of-terminated changes u u in
    let size = length_of-terminated changes u u in
    let bytes = received-terminated changes u u in
    let ended = is_terminated-terminated changes u in
    let offset = offset_of-terminated changes u u in
    let few : length (events_of changes u) ≤ 2 * received changes u + cond (is_some (length_of changes u)) 2 1 + 0 = rw alive.1 at s.few in
    let still : is_known (changes ++ Terminated u ∷ []) u ≡ true = ap is_some known ∙ alive.0 in
    record {
      no_events = λ h. absurd (false≢true (sym h ∙ still));
      no_length = λ h. absurd (false≢true (sym h ∙ still));
      no_bytes = λ h. absurd (false≢true (sym h ∙ still));
      not_ended = λ h. absurd (false≢true (sym h ∙ still));
      few = rw (bytes, size, ended) (omega (arith, more_events changes (Terminated u)));
      within = rw (offset, size) s.within;
      final = rw (known, bytes) s.final;
      small = rw size s.small;
    }

sound_own : (changes : List Accepted) (c : Accepted) → IsSound changes (id_of c) → CanFollow changes c → IsSound (changes ++ c ∷ []) (id_of c)
sound_own changes (Created u n kind) s can = sound_created changes u n kind s can
sound_own changes (Appended u n) s can = sound_appended changes u n s can
sound_own changes (Declared u n k) s can = sound_declared changes u n k s can
sound_own changes (Terminated u) s can = sound_terminated changes u s can

pub sound_more : (changes : List Accepted) (c : Accepted) → ((u : ℕ) → IsSound changes u) → CanFollow changes c → (u : ℕ) → IsSound (changes ++ c ∷ []) u
sound_more changes c all can u =
    elim (eqb (id_of c) u) as (λ b. eqb (id_of c) u ≡ b → IsSound (changes ++ c ∷ []) u) [
      | true ↦ λ e. subst (IsSound (changes ++ c ∷ [])) (eqb-true (id_of c) u e) (sound_own changes c (all (id_of c)) can)
      | false ↦ λ e. sound_other changes c u (all u) e
    ] refl

pub sound : (changes : List Accepted) → IsLegal changes → (u : ℕ) → IsSound changes u
sound = legal_induction (λ changes. (u : ℕ) → IsSound changes u) sound_empty sound_more

-- ---- the step of the journal

pub track_of-unknown : (changes : List Accepted) (u : ℕ) → IsSound changes u → is_known changes u ≡ false → track_of changes u ≡ record { events = 0; offset = 0; length = None }
track_of-unknown changes u s new =
    let none = none_from (kind_of changes u) new in
    let offset : offset_of changes u ≡ 0 = offset_of-plain changes u (ap is_final none) ∙ s.no_bytes new in
    rw (s.no_events new, offset, s.no_length new) refl

pub steps_of-reached : (changes : List Accepted) (c : Accepted) → IsSound changes (id_of c) → CanFollow changes c → steps_of changes c ≡ steps_at c (reached (track_of changes (id_of c)) c).offset (reached (track_of changes (id_of c)) c).length
steps_of-reached changes (Created u n kind) s can = rw (offset_of-created changes u n kind can.0 (s.no_length can.0) (s.no_bytes can.0), length_of-created changes u n kind (s.no_length can.0)) refl
steps_of-reached changes (Appended u n) s can = rw (offset_of-appended changes u n can.0.1, length_of-appended changes u n u) refl
steps_of-reached changes (Declared u n k) s can = rw (offset_of-declared changes u n k can.0.1, length_of-declared changes u n k can.1) refl
steps_of-reached changes (Terminated u) s can = rw (offset_of-terminated changes u u, length_of-terminated changes u u) refl

pub track_of-reached : (changes : List Accepted) (c : Accepted) → IsSound changes (id_of c) → CanFollow changes c → track_of (changes ++ c ∷ []) (id_of c) ≡ record (reached (track_of changes (id_of c)) c) { events = length (events_of changes (id_of c)) + length (steps_of changes c) }
track_of-reached changes (Created u n kind) s can = rw (more_events changes (Created u n kind), offset_of-created changes u n kind can.0 (s.no_length can.0) (s.no_bytes can.0), length_of-created changes u n kind (s.no_length can.0)) refl
track_of-reached changes (Appended u n) s can = rw (more_events changes (Appended u n), offset_of-appended changes u n can.0.1, length_of-appended changes u n u) refl
track_of-reached changes (Declared u n k) s can = rw (more_events changes (Declared u n k), offset_of-declared changes u n k can.0.1, length_of-declared changes u n k can.1) refl
track_of-reached changes (Terminated u) s can = rw (more_events changes (Terminated u), offset_of-terminated changes u u, length_of-terminated changes u u) refl
