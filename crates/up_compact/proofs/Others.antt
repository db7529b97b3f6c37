-- What a list of changes tells of the uploads of which nothing was left out.
use Rattle.std.proofs.Common.{◌≡◌, ℕ, ◌+◌, ◌%◌, Bool, true, false, cond, eqb, not, is_some, unwrap_or, List, [], ◌∷◌, ◌++◌, length, refl, sym, ap, ◌∙◌, subst, arith, append_assoc}
use Rattle.std.proofs.lemmas.Bool.{eqb-true, false≢true}
use Rattle.std.proofs.lemmas.List.{append-nil}
use Rattle.std.proofs.lemmas.List.Elements.{filter-append}
use Rattle.std.specs.Option.{option_or}
use Rattle.up_events.specs.Lists.{gather}
use Rattle.up_events.specs.History.{id_of, kind_in, length_in, bytes_in, kind_of, length_of, received, offset_of, is_final, is_known, EventBody, steps_at, steps_of, events_of}
use Rattle.up_events.specs.Log.{numbered, log_of}
use Rattle.up_events.specs.declared.event.Accepted.{Accepted}
use Rattle.up_events.specs.declared.event.Accepted.TheVariants.{Created, Appended, Declared, Terminated}
use Rattle.up_events.specs.declared.event.Event.{Event}
use Rattle.up_events.proofs.HistoryLemmas.{kind_of-snoc, length_of-snoc, received-snoc, events_of-snoc, log_of-snoc, kind_of-other, length_of-other, events_of-other}
use Rattle.up_compact.specs.Shorter.{changes_without, events_without, LogsAreWithout, OthersAreKnown}

from_back : {X : Type 0} (P : List X → Type 0) → ((before : List X) (x : X) → P before → P (before ++ x ∷ [])) → (before rest : List X) → P before → P (before ++ rest)
from_back P more before [] here = subst P (sym (append-nil before)) here
from_back P more before (x ∷ rest) here = subst P (append_assoc before (x ∷ []) rest) (from_back P more (before ++ x ∷ []) rest (more before x here))

bytes_in-other : (c : Accepted) (u : ℕ) → eqb (id_of c) u ≡ false → bytes_in u c ≡ 0
bytes_in-other (Created id length kind) u e = refl
bytes_in-other (Appended id count) u e = ap (λ b. cond b count 0) e
bytes_in-other (Declared id length count) u e = ap (λ b. cond b count 0) e
bytes_in-other (Terminated id) u e = refl

received-other : (changes : List Accepted) (c : Accepted) (u : ℕ) → eqb (id_of c) u ≡ false → received (changes ++ c ∷ []) u ≡ received changes u
received-other changes c u e = omega (arith, received-snoc changes c u, bytes_in-other c u e)

-- one of the uploads, and one that isn't among them
pub apart : (among : ℕ → Bool) (k u : ℕ) → among k ≡ true → among u ≡ false → eqb k u ≡ false
apart among k u inside outside = elim (eqb k u) as (λ b. eqb k u ≡ b → b ≡ false) [ true ↦ λ h. absurd (false≢true (sym outside ∙ ap among (sym (eqb-true k u h)) ∙ inside)) | false ↦ λ h. refl ] refl

-- a change that is left out, and one that stays
pub dropped : (among : ℕ → Bool) (before : List Accepted) (c : Accepted) → among (id_of c) ≡ true → changes_without among (before ++ c ∷ []) ≡ changes_without among before
dropped among before c inside =
    filter-append (λ (x : Accepted). not (among (id_of x))) before (c ∷ [])
    ∙ ap (λ b. changes_without among before ++ cond (not b) (c ∷ []) []) inside ∙ append-nil _

pub stayed : (among : ℕ → Bool) (before : List Accepted) (c : Accepted) → among (id_of c) ≡ false → changes_without among (before ++ c ∷ []) ≡ changes_without among before ++ c ∷ []
stayed among before c outside =
    filter-append (λ (x : Accepted). not (among (id_of x))) before (c ∷ [])
    ∙ ap (λ b. changes_without among before ++ cond (not b) (c ∷ []) []) outside

-- two lists tell the same of an upload
record TellAlike (u : ℕ) (xs ys : List Accepted) : Type 0 where
  kind : kind_of xs u ≡ kind_of ys u
  length : length_of xs u ≡ length_of ys u
  received : received xs u ≡ received ys u

alike_more : (u : ℕ) (xs ys : List Accepted) (c : Accepted) → TellAlike u xs ys → TellAlike u (xs ++ c ∷ []) (ys ++ c ∷ [])
alike_more u xs ys c a = record {
  kind = kind_of-snoc xs c u ∙ ap (λ o. option_or o (kind_in u c)) a.kind ∙ sym (kind_of-snoc ys c u);
  length = length_of-snoc xs c u ∙ ap (λ o. option_or o (length_in u c)) a.length ∙ sym (length_of-snoc ys c u);
  received = received-snoc xs c u ∙ ap (λ n. n + bytes_in u c) a.received ∙ sym (received-snoc ys c u);
}

alike_other : (u : ℕ) (xs ys : List Accepted) (c : Accepted) → eqb (id_of c) u ≡ false → TellAlike u xs ys → TellAlike u xs (ys ++ c ∷ [])
alike_other u xs ys c e a = record {
  kind = a.kind ∙ sym (kind_of-other ys c u e);
  length = a.length ∙ sym (length_of-other ys c u e);
  received = a.received ∙ sym (received-other ys c u e);
}

offset_alike : (u : ℕ) (xs ys : List Accepted) → TellAlike u xs ys → offset_of xs u ≡ offset_of ys u
unfolding offset_of
offset_alike u xs ys a =
    ap (λ k. cond (is_final k) (unwrap_or (length_of xs u) 0) (received xs u)) a.kind
    ∙ ap (λ n. cond (is_final (kind_of ys u)) (unwrap_or n 0) (received xs u)) a.length
    ∙ ap (λ n. cond (is_final (kind_of ys u)) (unwrap_or (length_of ys u) 0) n) a.received

steps_alike : (xs ys : List Accepted) (c : Accepted) → TellAlike (id_of c) xs ys → steps_of xs c ≡ steps_of ys c
steps_alike xs ys c a =
    let more = alike_more (id_of c) xs ys c a in
    ap (λ n. steps_at c n (length_of (xs ++ c ∷ []) (id_of c))) (offset_alike (id_of c) (xs ++ c ∷ []) (ys ++ c ∷ []) more)
    ∙ ap (λ n. steps_at c (offset_of (ys ++ c ∷ []) (id_of c)) n) more.length

-- whether the change is of one of the uploads or of another
by_id : (among : ℕ → Bool) (c : Accepted) (P : Type 0) → (among (id_of c) ≡ true → P) → (among (id_of c) ≡ false → P) → P
by_id among c P inside outside = elim (among (id_of c)) as (λ b. among (id_of c) ≡ b → P) [ true ↦ inside | false ↦ outside ] refl

module _ (among : ℕ → Bool) (u : ℕ) (other : among u ≡ false) where
  Tells : List Accepted → Type 0
  Tells changes = TellAlike u (changes_without among changes) changes

  tells_more : (before : List Accepted) (c : Accepted) → Tells before → Tells (before ++ c ∷ [])
  unfolding Tells
  tells_more before c was = by_id among c _
      (λ inside. subst (λ l. TellAlike u l (before ++ c ∷ [])) (sym (dropped among before c inside)) (alike_other u (changes_without among before) before c (apart among (id_of c) u inside other) was))
      (λ outside. subst (λ l. TellAlike u l (before ++ c ∷ [])) (sym (stayed among before c outside)) (alike_more u (changes_without among before) before c was))

  tells : (changes : List Accepted) → TellAlike u (changes_without among changes) changes
  unfolding Tells
  tells changes = from_back Tells tells_more [] changes (record { kind = refl; length = refl; received = refl })

  pub known_alike : (changes : List Accepted) → is_known (changes_without among changes) u ≡ is_known changes u
  known_alike changes = ap is_some (tells changes).kind

-- a change that stays has the same events
steps_without : (among : ℕ → Bool) (before : List Accepted) (c : Accepted) → among (id_of c) ≡ false → steps_of (changes_without among before) c ≡ steps_of before c
steps_without among before c outside = steps_alike (changes_without among before) before c (tells among (id_of c) outside before)

module _ (among : ℕ → Bool) (u : ℕ) (other : among u ≡ false) where
  HasEvents : List Accepted → Type 0
  HasEvents changes = events_of (changes_without among changes) u ≡ events_of changes u

  events_more : (before : List Accepted) (c : Accepted) → HasEvents before → HasEvents (before ++ c ∷ [])
  unfolding HasEvents
  events_more before c was = by_id among c _
      (λ inside. ap (λ l. events_of l u) (dropped among before c inside) ∙ was ∙ sym (events_of-other before c u (apart among (id_of c) u inside other)))
      (λ outside.
      ap (λ l. events_of l u) (stayed among before c outside)
      ∙ events_of-snoc (changes_without among before) c u
      ∙ ap (λ l. l ++ cond (eqb (id_of c) u) (steps_of (changes_without among before) c) []) was
      ∙ ap (λ l. events_of before u ++ cond (eqb (id_of c) u) l []) (steps_without among before c outside)
      ∙ sym (events_of-snoc before c u))

  events_alike : (changes : List Accepted) → events_of (changes_without among changes) u ≡ events_of changes u
  unfolding HasEvents events_of gather
  events_alike changes = from_back HasEvents events_more [] changes refl

-- ---- the log of a lane

numbered_dropped : (among : ℕ → Bool) (v n : ℕ) (steps : List EventBody) → among v ≡ true → events_without among (numbered v n steps) ≡ []
numbered_dropped among v n [] inside = refl
numbered_dropped among v n (s ∷ steps) inside =
    ap (λ b. cond (not b) (record { id = v; number = n + 1; hook = s.0; offset = s.1; length = s.2 } ∷ events_without among (numbered v (n + 1) steps)) (events_without among (numbered v (n + 1) steps))) inside
    ∙ numbered_dropped among v (n + 1) steps inside

numbered_stayed : (among : ℕ → Bool) (v n : ℕ) (steps : List EventBody) → among v ≡ false → events_without among (numbered v n steps) ≡ numbered v n steps
numbered_stayed among v n [] outside = refl
numbered_stayed among v n (s ∷ steps) outside =
    ap (λ b. cond (not b) (record { id = v; number = n + 1; hook = s.0; offset = s.1; length = s.2 } ∷ events_without among (numbered v (n + 1) steps)) (events_without among (numbered v (n + 1) steps))) outside
    ∙ ap (λ l. record { id = v; number = n + 1; hook = s.0; offset = s.1; length = s.2 } ∷ l) (numbered_stayed among v (n + 1) steps outside)

cond_dropped : (among : ℕ → Bool) (b : Bool) (v n : ℕ) (steps : List EventBody) → among v ≡ true → events_without among (cond b (numbered v n steps) []) ≡ []
cond_dropped among true v n steps inside = numbered_dropped among v n steps inside
cond_dropped among false v n steps inside = refl

pub cond_stayed : (among : ℕ → Bool) (b : Bool) (v n : ℕ) (steps : List EventBody) → among v ≡ false → events_without among (cond b (numbered v n steps) []) ≡ cond b (numbered v n steps) []
cond_stayed among true v n steps outside = numbered_stayed among v n steps outside
cond_stayed among false v n steps outside = refl

module _ (among : ℕ → Bool) (lanes k : ℕ) where
  HasLog : List Accepted → Type 0
  HasLog changes = log_of lanes (changes_without among changes) k ≡ events_without among (log_of lanes changes k)

  abbrev added : List Accepted → Accepted → List Event
  added before c = cond (eqb (id_of c % lanes) k) (numbered (id_of c) (length (events_of before (id_of c))) (steps_of before c)) []

  split : (before : List Accepted) (c : Accepted) → events_without among (log_of lanes (before ++ c ∷ []) k) ≡ events_without among (log_of lanes before k) ++ events_without among (added before c)
  split before c = ap (events_without among) (log_of-snoc lanes before c k) ∙ filter-append (λ (e : Event). not (among e.id)) (log_of lanes before k) (added before c)

  added_alike : (before : List Accepted) (c : Accepted) → among (id_of c) ≡ false → added (changes_without among before) c ≡ events_without among (added before c)
  added_alike before c outside =
      ap (λ l. cond (eqb (id_of c % lanes) k) (numbered (id_of c) (length l) (steps_of (changes_without among before) c)) []) (events_alike among (id_of c) outside before)
      ∙ ap (λ l. cond (eqb (id_of c % lanes) k) (numbered (id_of c) (length (events_of before (id_of c))) l) []) (steps_without among before c outside)
      ∙ sym (cond_stayed among (eqb (id_of c % lanes) k) (id_of c) (length (events_of before (id_of c))) (steps_of before c) outside)

  log_more : (before : List Accepted) (c : Accepted) → HasLog before → HasLog (before ++ c ∷ [])
  unfolding HasLog
  log_more before c was = by_id among c _
      (λ inside.
      ap (λ l. log_of lanes l k) (dropped among before c inside) ∙ was
      ∙ sym (split before c ∙ ap (λ l. events_without among (log_of lanes before k) ++ l) (cond_dropped among (eqb (id_of c % lanes) k) (id_of c) (length (events_of before (id_of c))) (steps_of before c) inside) ∙ append-nil _))
      (λ outside.
      ap (λ l. log_of lanes l k) (stayed among before c outside)
      ∙ log_of-snoc lanes (changes_without among before) c k
      ∙ ap (λ l. l ++ added (changes_without among before) c) was
      ∙ ap (λ l. events_without among (log_of lanes before k) ++ l) (added_alike before c outside)
      ∙ sym (split before c))

  pub log_alike : (changes : List Accepted) → log_of lanes (changes_without among changes) k ≡ events_without among (log_of lanes changes k)
  unfolding HasLog log_of gather
  log_alike changes = from_back HasLog log_more [] changes refl

pub others_known : OthersAreKnown
others_known among s t u w other = ap (λ l. is_known l u) w.changes ∙ known_alike among u other s.journal.accepted

pub logs_without : LogsAreWithout
logs_without among s t lane w =
    ap (λ n. log_of n t.journal.accepted lane) w.lanes ∙ ap (λ l. log_of s.journal.lanes l lane) w.changes
    ∙ log_alike among s.journal.lanes lane s.journal.accepted
