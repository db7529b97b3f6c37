-- A shorter log defines the book without the uploads of which nothing stays.
use Rattle.std.proofs.Common.{◌≡◌, ℕ, Bool, true, false, cond, eqb, not, Option, Some, None, List, [], ◌∷◌, ◌++◌, length, refl, sym, ap, ◌∙◌, subst}
use Rattle.std.specs.FinMap as map
use Rattle.std.specs.FinMap.{get-empty, get-insert, get-remove}
use Rattle.std.specs.Ordering.{nat_cmp, eq_by_cmp}
use Rattle.std.specs.Cmp.{nat_cmp_total}
use Rattle.std.specs.List.{All}
use Rattle.std.proofs.lemmas.Bool.{false≢true}
use Rattle.std.proofs.lemmas.List.Elements.{All-head, All-tail}
use Rattle.up_events.specs.History.{id_of}
use Rattle.up_events.specs.Records.{noted}
use Rattle.up_events.specs.declared.event.Accepted.{Accepted}
use Rattle.up_events.specs.declared.event.Accepted.TheVariants.{Created, Appended, Declared, Terminated}
use Rattle.up_events.proofs.TrackLemmas.{same_id}
use Rattle.up_headers.specs.Rows.{first_that_holds}
use Rattle.up_headers.specs.declared.request.Patch.{Patch}
use Rattle.up_headers.specs.declared.request.Request.{Request}
use Rattle.up_headers.specs.declared.request.Request.TheVariants as request
use Rattle.up_log.specs.declared.entry.Entry.{Entry}
use Rattle.up_machine.specs.Content.{Content, made_of, patched}
use Rattle.up_machine.specs.Decision.{change_by, change_of, patch_declared, response_to, rows_of, unless}
use Rattle.up_machine.specs.State.{Contents, State, after, extended, first_bytes}
use Rattle.up_machine.specs.declared.plan.Done.{Done}
use Rattle.up_replay.specs.Replay.{asked_of, carried, replayed, replayed_one}
use Rattle.up_compact.specs.Shorter.{AreGone, IsNew, IsWithout, JoinsKept, ShorterDefines, changes_without, is_about, is_left_out, kept}
use Rattle.up_compact.proofs.Others.{dropped, stayed}
use Rattle.up_compact.proofs.Deciding.{LooksAlike, decided_alike, others_look}

-- ---- a map with one entry put in or taken out

apart_at : (among : ℕ → Bool) (k u : ℕ) → among k ≡ true → among u ≡ false → eq_by_cmp nat_cmp u k ≡ false
apart_at among k u inside outside = elim (eq_by_cmp nat_cmp u k) as (λ b. eq_by_cmp nat_cmp u k ≡ b → b ≡ false) [
  | true ↦ λ h. absurd (false≢true (sym outside ∙ ap among (same_id u k h) ∙ inside))
  | false ↦ λ h. refl
] refl

apart_from : (among : ℕ → Bool) (k u : ℕ) → among k ≡ false → among u ≡ true → eq_by_cmp nat_cmp u k ≡ false
apart_from among k u outside inside = elim (eq_by_cmp nat_cmp u k) as (λ b. eq_by_cmp nat_cmp u k ≡ b → b ≡ false) [
  | true ↦ λ h. absurd (false≢true (sym outside ∙ ap among (sym (same_id u k h)) ∙ inside))
  | false ↦ λ h. refl
] refl

pub insert_away : (c : Contents) (k u : ℕ) (x : Content) → eq_by_cmp nat_cmp u k ≡ false → map.get (map.insert c k x) u ≡ map.get c u
insert_away c k u x e = get-insert nat_cmp_total c k x u ∙ ap (λ b. cond b (Some x) (map.get c u)) e

remove_away : (c : Contents) (k u : ℕ) → eq_by_cmp nat_cmp u k ≡ false → map.get (map.remove c k) u ≡ map.get c u
remove_away c k u e = get-remove nat_cmp_total c k u ∙ ap (λ b. cond b None (map.get c u)) e

insert_both : (c d : Contents) (k u : ℕ) (x : Content) → map.get d u ≡ map.get c u → map.get (map.insert d k x) u ≡ map.get (map.insert c k x) u
insert_both c d k u x e = get-insert nat_cmp_total d k x u ∙ ap (cond (eq_by_cmp nat_cmp u k) (Some x)) e ∙ sym (get-insert nat_cmp_total c k x u)

remove_both : (c d : Contents) (k u : ℕ) → map.get d u ≡ map.get c u → map.get (map.remove d k) u ≡ map.get (map.remove c k) u
remove_both c d k u e = get-remove nat_cmp_total d k u ∙ ap (cond (eq_by_cmp nat_cmp u k) None) e ∙ sym (get-remove nat_cmp_total c k u)

pub gone_inserted : (among : ℕ → Bool) (c : Contents) (k : ℕ) (x : Content) → among k ≡ false → AreGone among c → AreGone among (map.insert c k x)
gone_inserted among c k x outside gone u inside = insert_away c k u x (apart_from among k u outside inside) ∙ gone u inside

cond_none : (b : Bool) (o : Option Content) → o ≡ None → cond b None o ≡ None
cond_none true o e = refl
cond_none false o e = e

pub gone_removed : (among : ℕ → Bool) (c : Contents) (k : ℕ) → AreGone among c → AreGone among (map.remove c k)
gone_removed among c k gone u inside = get-remove nat_cmp_total c k u ∙ cond_none (eq_by_cmp nat_cmp u k) (map.get c u) (gone u inside)

pub gone_extended : (among : ℕ → Bool) (c : Contents) (p : Patch) (o : Option Content) → among p.id ≡ false → AreGone among c → AreGone among (extended c p o)
gone_extended among c p None outside gone = gone
gone_extended among c p (Some x) outside gone = gone_inserted among c p.id (patched p x) outside gone

extended_away : (among : ℕ → Bool) (c : Contents) (p : Patch) (o : Option Content) (u : ℕ) → among p.id ≡ true → among u ≡ false → map.get (extended c p o) u ≡ map.get c u
extended_away among c p None u inside outside = refl
extended_away among c p (Some x) u inside outside = insert_away c p.id u (patched p x) (apart_at among p.id u inside outside)

extended_both : (c d : Contents) (p : Patch) (o : Option Content) (u : ℕ) → map.get d u ≡ map.get c u → map.get (extended d p o) u ≡ map.get (extended c p o) u
extended_both c d p None u e = e
extended_both c d p (Some x) u e = insert_both c d p.id u (patched p x) e

-- ---- what a request changes

-- a fact of what so many bytes and a length change holds of no change, and of each of that upload
pub change_cases : (u : ℕ) (P : Option Accepted → Type 0) → P None → ((c : Accepted) → id_of c ≡ u → P (Some c)) → (size : Option ℕ) (count : ℕ) → P (change_by u size count)
change_cases u P none some None count = elim (eqb count 0) as (λ b. P (cond b None (Some (Appended u count)))) [ true ↦ none | false ↦ some (Appended u count) refl ]
change_cases u P none some (Some size) count = some (Declared u size count) refl

module _ (among : ℕ → Bool) (s t : State) (w : IsWithout among s t) where
  -- a change of an upload that is left out
  left_change : (c : Accepted) (content : Contents) → among (id_of c) ≡ true → ((u : ℕ) → among u ≡ false → map.get content u ≡ map.get s.content u) → IsWithout among (record s { content = content; journal = noted s.journal c }) t
  left_change c content inside away = record {
    lanes = w.lanes;
    closed = w.closed;
    max_size = w.max_size;
    changes = w.changes ∙ sym (dropped among s.journal.accepted c inside);
    content = λ u outside. w.content u outside ∙ sym (away u outside);
    gone = w.gone;
  }

  left_after : (r : Request) (id : ℕ) → is_about among r id ≡ true → IsWithout among (after s r id (change_of s r id)) t
  left_after request.Options id about = w
  left_after (request.Create new) id about =
      let x = made_of new (first_bytes s.content new) in
      left_change (Created id x.length x.kind) (map.insert s.content id x) about (λ u outside. insert_away s.content id u x (apart_at among id u about outside))
  left_after (request.Head u) id about = w
  left_after (request.Patch p) id about =
      let found = map.get s.content p.id in
      change_cases p.id (λ change. IsWithout among (after s (request.Patch p) id change) t) w
      (λ c is. left_change c (extended s.content p found) (ap among is ∙ about) (λ u outside. extended_away among s.content p found u about outside))
      (patch_declared p found) (length p.bytes)
  left_after (request.Delete v) id about = left_change (Terminated v) (map.remove s.content v) about (λ u outside. remove_away s.content v u (apart_at among v u about outside))
  left_after (request.Get u) id about = w

  pub left_one : (entry : Entry) → is_left_out among entry ≡ true → IsWithout among (replayed_one s entry) t
  left_one entry about =
      let done : Done = record { response = response_to s entry.request entry.id; change = change_of s entry.request entry.id } in
      elim (first_that_holds (rows_of s entry.request entry.id (asked_of entry.consent))) as (λ o. IsWithout among (carried s entry (unless o done)) t) [
        | None ↦ left_after entry.request entry.id about
        | Some refused ↦ w
      ]

  -- a change of another
  both_change : (c : Accepted) (cs ct : Contents) → among (id_of c) ≡ false → ((u : ℕ) → among u ≡ false → map.get ct u ≡ map.get cs u) → AreGone among ct → IsWithout among (record s { content = cs; journal = noted s.journal c }) (record t { content = ct; journal = noted t.journal c })
  both_change c cs ct outside same gone = record {
    lanes = w.lanes;
    closed = w.closed;
    max_size = w.max_size;
    changes = ap (λ l. l ++ c ∷ []) w.changes ∙ sym (stayed among s.journal.accepted c outside);
    content = same;
    gone = gone;
  }

  both_after : (r : Request) (id : ℕ) → is_about among r id ≡ false → LooksAlike s t r id → IsWithout among (after s r id (change_of s r id)) (after t r id (change_of s r id))
  both_after request.Options id other looks = w
  both_after (request.Create new) id other looks =
      let x = made_of new (first_bytes s.content new) in
      let y = made_of new (first_bytes t.content new) in
      let same : y ≡ x = ap (made_of new) looks.1 in
      both_change (Created id x.length x.kind) (map.insert s.content id x) (map.insert t.content id y) other
      (λ u outside. ap (λ z. map.get (map.insert t.content id z) u) same ∙ insert_both s.content t.content id u x (w.content u outside))
      (gone_inserted among t.content id y other w.gone)
  both_after (request.Head u) id other looks = w
  both_after (request.Patch p) id other looks =
      let found = map.get s.content p.id in
      let there = map.get t.content p.id in
      change_cases p.id (λ change. IsWithout among (after s (request.Patch p) id change) (after t (request.Patch p) id change)) w
      (λ c is. both_change c (extended s.content p found) (extended t.content p there) (ap among is ∙ other)
      (λ u outside. ap (λ o. map.get (extended t.content p o) u) looks ∙ extended_both s.content t.content p found u (w.content u outside))
      (gone_extended among t.content p there other w.gone))
      (patch_declared p found) (length p.bytes)
  both_after (request.Delete v) id other looks =
      both_change (Terminated v) (map.remove s.content v) (map.remove t.content v) other
      (λ u outside. remove_both s.content t.content v u (w.content u outside))
      (gone_removed among t.content v w.gone)
  both_after (request.Get u) id other looks = w

  pub both_one : (entry : Entry) → is_left_out among entry ≡ false → LooksAlike s t entry.request entry.id → IsWithout among (replayed_one s entry) (replayed_one t entry)
  both_one entry other looks =
      let done : Done = record { response = response_to s entry.request entry.id; change = change_of s entry.request entry.id } in
      let same = decided_alike s t entry.request entry.id (asked_of entry.consent) w.closed w.max_size looks in
      let both = elim (first_that_holds (rows_of s entry.request entry.id (asked_of entry.consent))) as (λ o. IsWithout among (carried s entry (unless o done)) (carried t entry (unless o done))) [
        | None ↦ both_after entry.request entry.id other looks
        | Some refused ↦ w
      ] in
      subst (λ d. IsWithout among (replayed_one s entry) (carried t entry d)) (sym same) both

defines_from : (among : ℕ → Bool) (s t : State) (entries : List Entry) → IsWithout among s t → All (JoinsKept among) entries → IsWithout among (replayed s entries) (replayed t (kept among entries))
unfolding replayed
defines_from among s t [] w joins = w
defines_from among s t (entry ∷ entries) w joins =
    let others = All-tail (JoinsKept among) entry entries joins in
    elim (is_left_out among entry) as (λ b. is_left_out among entry ≡ b → IsWithout among (replayed (replayed_one s entry) entries) (replayed t (cond (not b) (entry ∷ kept among entries) (kept among entries)))) [
      | true ↦ λ about. defines_from among (replayed_one s entry) t entries (left_one among s t w entry about) others
      | false ↦ λ other.
          let looks = others_look among s t entry.request entry.id w other (All-head (JoinsKept among) entry entries joins other) in
          defines_from among (replayed_one s entry) (replayed_one t entry) entries (both_one among s t w entry other looks) others
    ] refl

new_without : (among : ℕ → Bool) (s : State) → IsNew s → IsWithout among s s
new_without among s new = record {
  lanes = refl;
  closed = refl;
  max_size = refl;
  changes = new.changes ∙ sym (ap (changes_without among) new.changes);
  content = λ u outside. refl;
  gone = λ u inside. ap (λ c. map.get c u) new.content ∙ get-empty nat_cmp u;
}

pub shorter_defines : ShorterDefines
shorter_defines among s entries new joins = defines_from among s s entries (new_without among s new) joins
