-- The content goes on fitting the accepted changes.
use Rattle.std.proofs.Common.{◌≡◌, ℕ, ◌+◌, ◌≤◌, Bool, true, false, cond, eqb, ◌&&◌, not, Option, Some, None, Result, Ok, Err, is_some, unwrap_or, List, [], ◌∷◌, ◌++◌, length, zero, suc, ◌^◌, refl, sym, ap, ◌∙◌, subst, arith, length-append}
use Rattle.std.specs.FinMap as map
use Rattle.std.specs.FinMap.{get-empty, get-insert, get-remove}
use Rattle.std.specs.Ordering.{nat_cmp, eq_by_cmp}
use Rattle.std.specs.Cmp.{nat_cmp_total}
use Rattle.std.proofs.lemmas.Bool.{eqb-true, false≢true, ltb-false}
use Rattle.up_events.specs.History.{id_of, length_of, kind_of, is_final, is_final_kind, offset_of, is_known, is_terminated, is_alive, is_whole, max_length_of, CanFollow, IsLegal}
use Rattle.up_events.specs.Lists.{EachFollows, first_given}
use Rattle.up_events.specs.declared.event.Accepted.{Accepted}
use Rattle.up_events.specs.declared.event.Accepted.TheVariants.{Created, Appended, Declared, Terminated}
use Rattle.up_events.proofs.TrackLemmas.{same_id}
use Rattle.up_events.proofs.HistoryLemmas.{or_none, EachFollows-snoc, kind_of-other, length_of-other, offset_of-other, is_terminated-other}
use Rattle.up_events.proofs.Sound.{sound, kind_of-created, length_of-created, kind_of-appended, length_of-appended, kind_of-declared, length_of-declared, is_terminated-created, is_terminated-appended, is_terminated-declared, is_terminated-terminated, offset_of-created, offset_of-appended, offset_of-declared}
use Rattle.up_machine.specs.Content.{Content, CanTake, declared, size_after, with_more}
use Rattle.up_machine.specs.Decision.{change_by, new_content, rows_of, patch_outcome, unless}
use Rattle.up_machine.proofs.DecisionLemmas.{MayTake, create_passed, first_small, made_bytes, made_sized, made_small, patch_passed}
use Rattle.up_machine.specs.declared.checks.PatchOutcome.{PatchOutcome}
use Rattle.up_machine.specs.declared.plan.Asked.{Asked}
use Rattle.up_headers.specs.declared.request.Request.TheVariants as request
use Rattle.up_headers.specs.Rows.{first_that_holds}
use Rattle.up_headers.specs.Creations.{IsAtMost, is_above}
use Rattle.up_headers.specs.declared.request.NewUpload.{NewUpload}
use Rattle.up_headers.specs.declared.request.Patch.{Patch}
use Rattle.up_headers.specs.declared.request.NotDigits.{NotDigits}
use Rattle.std.specs.Option.{option_or, IsSomeAnd, IfSome}
use Rattle.up_events.specs.Records.{Records, noted}
use Rattle.up_machine.specs.State.{Contents, State, extended, first_bytes}
use Rattle.up_machine.specs.Fits.{Fits, IsSoundBook}

at_other : (k u : ℕ) → eq_by_cmp nat_cmp u k ≡ false → eqb k u ≡ false
at_other k u e = elim (eqb k u) as (λ b. eqb k u ≡ b → b ≡ false) [ true ↦ λ h. absurd (false≢true (sym e ∙ grind (arith, eqb-true k u h, nat_cmp_total))) | false ↦ λ h. refl ] refl

some_same : {X : Type 0} (x y : X) → Some x ≡ Some y → x ≡ y
some_same x y e = cc

-- what the changes say of an upload
abbrev Tells : List Accepted → ℕ → Content → Type 0
Tells changes u x = (kind_of changes u ≡ Some x.kind) × (length_of changes u ≡ x.length) × (length x.bytes ≡ offset_of changes u)

alive_other : (changes : List Accepted) (c : Accepted) (u : ℕ) → eqb (id_of c) u ≡ false → is_alive changes u ≡ is_alive (changes ++ c ∷ []) u
alive_other changes c u e = rw (kind_of-other changes c u e, is_terminated-other changes c u e) refl

tells_other : (changes : List Accepted) (c : Accepted) (u : ℕ) (x : Content) → eqb (id_of c) u ≡ false → Tells changes u x → Tells (changes ++ c ∷ []) u x
tells_other changes c u x e t = rw (kind_of-other changes c u e, length_of-other changes c u e, offset_of-other changes c u e) t

-- a map with one entry put in fits a list with one change more, where the change speaks of that upload as it is now
fits_put : (content : Contents) (changes : List Accepted) (c : Accepted) (x : Content) → Fits content changes → is_alive (changes ++ c ∷ []) (id_of c) ≡ true
    → (kind_of (changes ++ c ∷ []) (id_of c) ≡ Some x.kind) × (length_of (changes ++ c ∷ []) (id_of c) ≡ x.length) × (length x.bytes ≡ offset_of (changes ++ c ∷ []) (id_of c))
    → Fits (map.insert content (id_of c) x) (changes ++ c ∷ [])
fits_put content changes c x fits alive here =
    let got : (u : ℕ) → map.get (map.insert content (id_of c) x) u ≡ cond (eq_by_cmp nat_cmp u (id_of c)) (Some x) (map.get content u) = λ u. get-insert nat_cmp_total content (id_of c) x u in
    record {
      ids = λ u. ap is_some (got u) ∙ elim (eq_by_cmp nat_cmp u (id_of c)) as (λ b. eq_by_cmp nat_cmp u (id_of c) ≡ b → is_some (cond b (Some x) (map.get content u)) ≡ is_alive (changes ++ c ∷ []) u) [
        | true ↦ λ e. sym (ap (is_alive (changes ++ c ∷ [])) (same_id u (id_of c) e) ∙ alive)
        | false ↦ λ e. fits.ids u ∙ alive_other changes c u (at_other (id_of c) u e)
      ] refl;
      each = λ u y g. elim (eq_by_cmp nat_cmp u (id_of c)) as (λ b. eq_by_cmp nat_cmp u (id_of c) ≡ b → cond b (Some x) (map.get content u) ≡ Some y → Tells (changes ++ c ∷ []) u y) [
        | true ↦ λ e g. subst (λ v. Tells (changes ++ c ∷ []) v y) (sym (same_id u (id_of c) e)) (subst (Tells (changes ++ c ∷ []) (id_of c)) (some_same x y g) here)
        | false ↦ λ e g. tells_other changes c u y (at_other (id_of c) u e) (fits.each u y g)
      ] refl (sym (got u) ∙ g);
    }

-- a map with one entry taken out fits a list with one change more, where that upload is no longer alive
fits_removed : (content : Contents) (changes : List Accepted) (c : Accepted) → Fits content changes → is_alive (changes ++ c ∷ []) (id_of c) ≡ false → Fits (map.remove content (id_of c)) (changes ++ c ∷ [])
fits_removed content changes c fits dead =
    let got : (u : ℕ) → map.get (map.remove content (id_of c)) u ≡ cond (eq_by_cmp nat_cmp u (id_of c)) None (map.get content u) = λ u. get-remove nat_cmp_total content (id_of c) u in
    record {
      ids = λ u. ap is_some (got u) ∙ elim (eq_by_cmp nat_cmp u (id_of c)) as (λ b. eq_by_cmp nat_cmp u (id_of c) ≡ b → is_some (cond b None (map.get content u)) ≡ is_alive (changes ++ c ∷ []) u) [
        | true ↦ λ e. sym (ap (is_alive (changes ++ c ∷ [])) (same_id u (id_of c) e) ∙ dead)
        | false ↦ λ e. fits.ids u ∙ alive_other changes c u (at_other (id_of c) u e)
      ] refl;
      each = λ u y g. elim (eq_by_cmp nat_cmp u (id_of c)) as (λ b. eq_by_cmp nat_cmp u (id_of c) ≡ b → cond b None (map.get content u) ≡ Some y → Tells (changes ++ c ∷ []) u y) [
        | true ↦ λ e g. absurd (cc)
        | false ↦ λ e g. tells_other changes c u y (at_other (id_of c) u e) (fits.each u y g)
      ] refl (sym (got u) ∙ g);
    }

-- ---- what may follow

not_final : (content : Contents) (changes : List Accepted) (u : ℕ) (x : Content) → Fits content changes → map.get content u ≡ Some x → is_final_kind x.kind ≡ false → is_final (kind_of changes u) ≡ false
not_final content changes u x fits g plain = ap is_final (fits.each u x g).0 ∙ plain

pub alive_at : (content : Contents) (changes : List Accepted) (u : ℕ) (x : Content) → Fits content changes → map.get content u ≡ Some x → is_alive changes u ≡ true
alive_at content changes u x fits g = sym (fits.ids u) ∙ ap is_some g

fits_appended : (content : Contents) (changes : List Accepted) (u : ℕ) (x : Content) (more : List ℕ) → Fits content changes → map.get content u ≡ Some x → is_final_kind x.kind ≡ false → Fits (map.insert content u (with_more x x.length more)) (changes ++ Appended u (length more) ∷ [])
fits_appended content changes u x more fits g plain =
    let t = fits.each u x g in
    let c : Accepted = Appended u (length more) in
    let known = kind_of-appended changes u (length more) u in
    let size = length_of-appended changes u (length more) u in
    let alive : is_alive (changes ++ c ∷ []) u ≡ true = rw (known, is_terminated-appended changes u (length more) u) (alive_at content changes u x fits g) in
    let offset = offset_of-appended changes u (length more) (not_final content changes u x fits g plain) in
    fits_put content changes c (with_more x x.length more) fits alive (known ∙ t.0, size ∙ t.1, length-append x.bytes more ∙ ap (λ k. k + length more) t.2 ∙ sym offset)

fits_declared : (content : Contents) (changes : List Accepted) (u n : ℕ) (x : Content) (more : List ℕ) → Fits content changes → map.get content u ≡ Some x → is_final_kind x.kind ≡ false → x.length ≡ None → Fits (map.insert content u (with_more x (Some n) more)) (changes ++ Declared u n (length more) ∷ [])
fits_declared content changes u n x more fits g plain unsaid =
    let t = fits.each u x g in
    let c : Accepted = Declared u n (length more) in
    let known = kind_of-declared changes u n (length more) u in
    let size = length_of-declared changes u n (length more) (t.1 ∙ unsaid) in
    let alive : is_alive (changes ++ c ∷ []) u ≡ true = rw (known, is_terminated-declared changes u n (length more) u) (alive_at content changes u x fits g) in
    let offset = offset_of-declared changes u n (length more) (not_final content changes u x fits g plain) in
    fits_put content changes c (with_more x (Some n) more) fits alive (known ∙ t.0, size, length-append x.bytes more ∙ ap (λ k. k + length more) t.2 ∙ sym offset)

-- ---- a PATCH

-- a length is declared only where none is known
declared_some : (sent : Option (Result ℕ NotDigits)) (known : Option ℕ) (n : ℕ) → declared sent known ≡ Some n → known ≡ None
declared_some None known n e = absurd (cc)
declared_some (Some (Err fault)) known n e = absurd (cc)
declared_some (Some (Ok size)) None n e = refl
declared_some (Some (Ok size)) (Some m) n e = absurd (cc)

below_apart : (o count : ℕ) (n : Option ℕ) → o + count ≤ max_length_of n → 1 ≤ count → is_whole o n ≡ false
below_apart o count None room some = refl
below_apart o count (Some m) room some = elim (eqb o m) as (λ b. eqb o m ≡ b → b ≡ false) [ true ↦ λ e. let same = eqb-true o m e in absurd (omega arith) | false ↦ λ e. refl ] refl

most_within : (k : ℕ) (n : Option ℕ) (max_size : ℕ) → max_size ≤ 2 ^ 30 → k ≤ unwrap_or n max_size → k ≤ max_length_of n
most_within k None max_size small room = omega arith
most_within k (Some m) max_size small room = room

positive : (k : ℕ) → eqb k 0 ≡ false → 1 ≤ k
positive zero e = absurd (false≢true (sym e))
positive (suc k) e = omega arith

-- what a change makes of the book, where an upload gets this length and so many bytes
pub record Moves (content : Contents) (changes : List Accepted) (p : Patch) (x : Content) (size : Option ℕ) (change : Accepted) : Type 0 where
  pub can : CanFollow changes change
  pub take : CanTake size (length p.bytes) x
  pub fits : Fits (map.insert content p.id (with_more x size p.bytes)) (changes ++ change ∷ [])

moves_appended : (content : Contents) (changes : List Accepted) (p : Patch) (x : Content) → Fits content changes → map.get content p.id ≡ Some x → is_final_kind x.kind ≡ false → 1 ≤ length p.bytes → length x.bytes + length p.bytes ≤ max_length_of x.length → Moves content changes p x x.length (Appended p.id (length p.bytes))
moves_appended content changes p x fits g plain some room =
    let t = fits.each p.id x g in
    record {
      can = ((alive_at content changes p.id x fits g, not_final content changes p.id x fits g plain), some, rw (← t.2, t.1) room);
      take = (below_apart (length x.bytes) (length p.bytes) x.length room some, room);
      fits = fits_appended content changes p.id x p.bytes fits g plain;
    }

moves_declared : (content : Contents) (changes : List Accepted) (p : Patch) (n : ℕ) (x : Content) → Fits content changes → map.get content p.id ≡ Some x → is_final_kind x.kind ≡ false → x.length ≡ None → n ≤ 2 ^ 30 → length x.bytes + length p.bytes ≤ n → Moves content changes p x (Some n) (Declared p.id n (length p.bytes))
moves_declared content changes p n x fits g plain unsaid small room =
    let t = fits.each p.id x g in
    record {
      can = ((alive_at content changes p.id x fits g, not_final content changes p.id x fits g plain), t.1 ∙ unsaid, rw (← t.2) room, small);
      take = (ap (is_whole (length x.bytes)) unsaid, room);
      fits = fits_declared content changes p.id n x p.bytes fits g plain unsaid;
    }

appended_moves : (content : Contents) (changes : List Accepted) (p : Patch) (x : Content) (change : Accepted) (size : Option ℕ) → Fits content changes → map.get content p.id ≡ Some x → is_final_kind x.kind ≡ false → size ≡ x.length → length x.bytes + length p.bytes ≤ max_length_of x.length → cond (eqb (length p.bytes) 0) None (Some (Appended p.id (length p.bytes))) ≡ Some change → Moves content changes p x size change
appended_moves content changes p x change size fits g plain is room made =
    elim (eqb (length p.bytes) 0) as (λ b. eqb (length p.bytes) 0 ≡ b → cond b None (Some (Appended p.id (length p.bytes))) ≡ Some change → Moves content changes p x size change) [
      | true ↦ λ e made. absurd (cc)
      | false ↦ λ e made. let same : Appended p.id (length p.bytes) ≡ change = cc in
          subst (Moves content changes p x size) same (subst (λ n. Moves content changes p x n (Appended p.id (length p.bytes))) (sym is) (moves_appended content changes p x fits g plain (positive (length p.bytes) e) room))
    ] refl made

moves_by : (d : Option ℕ) (content : Contents) (changes : List Accepted) (max_size : ℕ) (p : Patch) (x : Content) (change : Accepted) → declared p.length x.length ≡ d → Fits content changes → map.get content p.id ≡ Some x → is_final_kind x.kind ≡ false → max_size ≤ 2 ^ 30 → is_above max_size d ≡ false → length x.bytes + length p.bytes ≤ unwrap_or (option_or x.length d) max_size → change_by p.id d (length p.bytes) ≡ Some change → Moves content changes p x (option_or x.length d) change
moves_by None content changes max_size p x change d fits g plain small short room made =
    appended_moves content changes p x change (option_or x.length None) fits g plain (or_none x.length)
    (most_within (length x.bytes + length p.bytes) x.length max_size small (subst (λ n. length x.bytes + length p.bytes ≤ unwrap_or n max_size) (or_none x.length) room)) made
moves_by (Some n) content changes max_size p x change d fits g plain small short room made =
    let unsaid = declared_some p.length x.length n d in
    let same : Declared p.id n (length p.bytes) ≡ change = cc in
    let size : option_or x.length (Some n) ≡ Some n = ap (λ o. option_or o (Some n)) unsaid in
    let fit : length x.bytes + length p.bytes ≤ n = subst (λ o. length x.bytes + length p.bytes ≤ unwrap_or o max_size) size room in
    let most : n ≤ max_size = ltb-false max_size n short in
    subst (Moves content changes p x (option_or x.length (Some n))) same
    (subst (λ o. Moves content changes p x o (Declared p.id n (length p.bytes))) (sym size) (moves_declared content changes p n x fits g plain unsaid (omega arith) fit))

-- a patch that nothing refuses makes its change
pub patch_moves : (content : Contents) (changes : List Accepted) (max_size : ℕ) (p : Patch) (x : Content) (change : Accepted) → Fits content changes → map.get content p.id ≡ Some x → max_size ≤ 2 ^ 30 → MayTake max_size p x → change_by p.id (declared p.length x.length) (length p.bytes) ≡ Some change → Moves content changes p x (size_after p x) change
patch_moves content changes max_size p x change fits g small may made =
    moves_by (declared p.length x.length) content changes max_size p x change refl fits g may.plain small may.short may.room made

-- what a PATCH that nothing refuses does to its upload, where it comes to this step and makes this change
pub record Takes (content : Contents) (changes : List Accepted) (p : Patch) (step : PatchOutcome) (change : Accepted) : Type 0 where
  pub room : IsSomeAnd (map.get content p.id) (CanTake step.size (length p.bytes))
  pub can : CanFollow changes change
  pub next : (put : Contents) → IfSome (map.get content p.id) (λ x. put ≡ map.insert content p.id (with_more x step.size p.bytes)) → put ≡ extended content p (map.get content p.id)
  pub fits : Fits (extended content p (map.get content p.id)) (changes ++ change ∷ [])

pub patch_takes : (s : State) (p : Patch) (asked : Asked) (step : PatchOutcome) (change : Accepted) → IsSoundBook s → Ok step ≡ unless (first_that_holds (rows_of s (request.Patch p) 0 asked)) (patch_outcome p (map.get s.content p.id)) → change_by p.id step.declared (length p.bytes) ≡ Some change → Takes s.content s.journal.accepted p step change
patch_takes s p asked step change sound e made =
    let passed = patch_passed s p asked step (patch_outcome p (map.get s.content p.id)) e in
    let x = passed.0 in
    let is : step ≡ patch_outcome p (Some x) = passed.3 ∙ ap (patch_outcome p) passed.1 in
    let by : change_by p.id (declared p.length x.length) (length p.bytes) ≡ Some change = subst (λ (n : PatchOutcome). change_by p.id n.declared (length p.bytes) ≡ Some change) is made in
    let moves = patch_moves s.content s.journal.accepted s.max_size p x change sound.fits passed.1 sound.small passed.2 by in
    record {
      room = subst (λ o. IsSomeAnd o (CanTake step.size (length p.bytes))) (sym passed.1) (subst (λ (n : PatchOutcome). CanTake n.size (length p.bytes) x) (sym is) moves.take);
      can = moves.can;
      next = λ put done.
          let to : put ≡ map.insert s.content p.id (with_more x step.size p.bytes) = subst (λ o. IfSome o (λ x. put ≡ map.insert s.content p.id (with_more x step.size p.bytes))) passed.1 done in
          to ∙ ap (λ (n : PatchOutcome). map.insert s.content p.id (with_more x n.size p.bytes)) is ∙ ap (extended s.content p) (sym passed.1);
      fits = subst (λ o. Fits (extended s.content p o) (s.journal.accepted ++ change ∷ [])) (sym passed.1) moves.fits;
    }

-- an upload that begins with all of its bytes where it is final, and with none where it isn't
pub fits_created : (content : Contents) (changes : List Accepted) (u : ℕ) (x : Content) → IsLegal changes → Fits content changes → is_known changes u ≡ false → length x.bytes ≡ cond (is_final_kind x.kind) (unwrap_or x.length 0) 0 → Fits (map.insert content u x) (changes ++ Created u x.length x.kind ∷ [])
fits_created content changes u x legal fits new bytes =
    let s = sound changes legal u in
    let c : Accepted = Created u x.length x.kind in
    let known = kind_of-created changes u x.length x.kind new in
    let size = length_of-created changes u x.length x.kind (s.no_length new) in
    let alive : is_alive (changes ++ c ∷ []) u ≡ true = rw (known, is_terminated-created changes u x.length u x.kind, s.not_ended new) refl in
    let offset = offset_of-created changes u x.length x.kind new (s.no_length new) (s.no_bytes new) in
    fits_put content changes c x fits alive (known, size, bytes ∙ sym offset)

none_of : (o : Option Content) → is_some o ≡ false → o ≡ None
none_of None e = refl
none_of (Some x) e = absurd (false≢true (sym e))

-- what holds where nothing refuses a creation: the id is unused, the change may follow, and the book with the new upload fits it
pub record MayCreate (s : State) (new : NewUpload) (id : ℕ) : Type 0 where
  pub unused : map.get s.content id ≡ None
  pub small : length (first_bytes s.content new) ≤ 2 ^ 30
  pub follows : let x = new_content s new in CanFollow s.journal.accepted (Created id x.length x.kind)
  pub fits : let x = new_content s new in Fits (map.insert s.content id x) (s.journal.accepted ++ Created id x.length x.kind ∷ [])

pub may_create : (s : State) (new : NewUpload) (id : ℕ) (asked : Asked) (r m : Unit {0}) → IsSoundBook s → IsAtMost (2 ^ 30) new.length → Ok r ≡ unless (first_that_holds (rows_of s (request.Create new) id asked)) m → MayCreate s new id
may_create s new id asked r m sound bounded e =
    let passed = create_passed s new id asked r m e in
    record {
      unused = none_of (map.get s.content id) (sound.fits.ids id ∙ ap (λ b. b && not (is_terminated s.journal.accepted id)) passed.0);
      small = first_small s.content s.max_size new bounded sound.small passed.1;
      follows = (passed.0, made_small s.content s.max_size new bounded sound.small passed.1, made_sized s.content new);
      fits = fits_created s.content s.journal.accepted id (new_content s new) sound.legal sound.fits passed.0 (made_bytes s.content new);
    }

and_not_true : (a : Bool) → (a && not true) ≡ false
and_not_true true = refl
and_not_true false = refl

pub fits_terminated : (content : Contents) (changes : List Accepted) (u : ℕ) → Fits content changes → Fits (map.remove content u) (changes ++ Terminated u ∷ [])
fits_terminated content changes u fits =
    fits_removed content changes (Terminated u) fits (ap (λ b. is_known (changes ++ Terminated u ∷ []) u && not b) (is_terminated-terminated changes u) ∙ and_not_true _)

-- a new book
pub fits_empty : Fits map.empty []
unfolding kind_of first_given is_terminated
fits_empty = record { ids = λ u. ap is_some (get-empty nat_cmp u); each = λ u x g. absurd (let e : None ≡ Some x = sym (get-empty nat_cmp u) ∙ g in cc) }

pub legal_empty : IsLegal []
unfolding EachFollows
legal_empty = tt

-- a book stays sound where the change could follow and the new content fits
pub sound_after : (s : State) (c : Accepted) (content : Contents) (journal : Records) → IsSoundBook s → CanFollow s.journal.accepted c → journal ≡ noted s.journal c → Fits content (s.journal.accepted ++ c ∷ []) → IsSoundBook (record { content = content; journal = journal; closed = s.closed; max_size = s.max_size })
sound_after s c content journal was can is fits = record {
  legal = subst (λ (r : Records). IsLegal r.accepted) (sym is) (EachFollows-snoc CanFollow [] s.journal.accepted c was.legal can);
  fits = subst (λ (r : Records). Fits content r.accepted) (sym is) fits;
  small = was.small;
}
