-- A request that is carried out tells of a post-finish just where it makes an upload complete.
use Rattle.std.proofs.Common.{◌≡◌, ℕ, ◌+◌, ◌≤◌, ◌^◌, Bool, true, false, cond, eqb, ◌&&◌, Option, Some, None, is_some, List, [], ◌∷◌, ◌++◌, length, refl, sym, ap, ◌∙◌, subst, length-append, arith}
use Rattle.std.specs.FinMap as map
use Rattle.std.specs.FinMap.{get-insert}
use Rattle.std.specs.Ordering.{nat_cmp, eq_by_cmp}
use Rattle.std.specs.Cmp.{nat_cmp_total}
use Rattle.std.proofs.lemmas.Bool.{false≢true}
use Rattle.up_events.proofs.Sound.{sound as sound_upload, length_of-created, offset_of-created}
use Rattle.up_events.specs.History.{EventBody, id_of, is_known, is_whole, length_of, offset_of, finish_at, steps_at}
use Rattle.up_events.specs.declared.event.Accepted.{Accepted}
use Rattle.up_events.specs.declared.event.Accepted.TheVariants.{Created, Appended, Declared}
use Rattle.up_events.specs.declared.event.Hook.TheVariants.{Receive, Finish}
use Rattle.up_headers.specs.Rows.{Row, first_that_holds}
use Rattle.up_headers.specs.declared.request.NewUpload.{NewUpload}
use Rattle.up_headers.specs.declared.request.Patch.{Patch}
use Rattle.up_headers.specs.declared.request.Request.{Request}
use Rattle.up_headers.specs.declared.request.Request.TheVariants as request
use Rattle.up_machine.specs.Content.{Content, declared, size_after, with_more}
use Rattle.up_machine.specs.Decision.{asked_rows, change_by, change_of, completes, new_content, patch_change, patch_completes, planned_rows, response_to, rows_of, patch_outcome, unless}
use Rattle.up_machine.specs.Finishing.{CompletingTellsFinish, FinishIsAllowed, has_finish, tells_finish}
use Rattle.up_machine.specs.Fits.{Fits, IsSoundBook}
use Rattle.up_machine.specs.State.{Contents, State}
use Rattle.up_machine.specs.declared.plan.Asked.{Asked}
use Rattle.up_machine.specs.declared.plan.Asked.TheVariants.{Skipped, Allowed, AllowedFinish, Refused}
use Rattle.up_machine.specs.declared.plan.Done.{Done}
use Rattle.up_machine.specs.declared.refusal.Refusal.{Refusal}
use Rattle.up_machine.specs.declared.refusal.Refusal.TheVariants as refusal
use Rattle.up_machine.proofs.DecisionLemmas.{MayTake, append_passed, create_passed, made_bytes, patch_passed, row_passed, unless_ok, unless_same}
use Rattle.up_machine.proofs.FitsLemmas.{patch_moves}

-- ---- the events of a change

has_finish-finish_at : (offset : ℕ) (size : Option ℕ) → has_finish (finish_at offset size) ≡ is_whole offset size
has_finish-finish_at offset size = elim (is_whole offset size) as (λ b. has_finish (cond b (let s : EventBody = (Finish, offset, size) in s ∷ []) []) ≡ b) [ true ↦ refl | false ↦ refl ]

has_finish-declared : (u n count offset : ℕ) (size : Option ℕ) → has_finish (steps_at (Declared u n count) offset size) ≡ is_whole offset size
has_finish-declared u n count offset size =
    elim (eqb count 0) as (λ b. has_finish (cond b [] (let s : EventBody = (Receive, offset, size) in s ∷ []) ++ finish_at offset size) ≡ is_whole offset size) [
      | true ↦ has_finish-finish_at offset size
      | false ↦ has_finish-finish_at offset size
    ]

-- the change is of this upload, and tells of a post-finish just where all bytes are there
abbrev TellsWhole : ℕ → Accepted → Type 0
TellsWhole u c = (id_of c ≡ u) × ((offset : ℕ) (size : Option ℕ) → has_finish (steps_at c offset size) ≡ is_whole offset size)

bytes_tell : (u : ℕ) (d : Option ℕ) (count : ℕ) (c : Accepted) → change_by u d count ≡ Some c → TellsWhole u c
bytes_tell u (Some n) count c e =
    let same : Declared u n count ≡ c = cc in
    subst (TellsWhole u) same (refl, has_finish-declared u n count)
bytes_tell u None count c e = elim (eqb count 0) as (λ b. cond b None (Some (Appended u count)) ≡ Some c → TellsWhole u c) [
  | true ↦ λ e. absurd (cc)
  | false ↦ λ e. let same : Appended u count ≡ c = cc in subst (TellsWhole u) same (refl, has_finish-finish_at)
] e

-- ---- bytes

get_inserted : (content : Contents) (u : ℕ) (x : Content) → map.get (map.insert content u x) u ≡ Some x
get_inserted content u x =
    let here : eq_by_cmp nat_cmp u u ≡ true = grind (arith, nat_cmp_total) in
    get-insert nat_cmp_total content u x u ∙ ap (λ b. cond b (Some x) (map.get content u)) here

moved_tells : (content : Contents) (changes : List Accepted) (max_size : ℕ) (p : Patch) (x : Content) (d : Option Accepted) → Fits content changes → map.get content p.id ≡ Some x → max_size ≤ 2 ^ 30 → MayTake max_size p x → change_by p.id (declared p.length x.length) (length p.bytes) ≡ d → tells_finish changes d ≡ (is_some d && is_whole (length x.bytes + length p.bytes) (size_after p x))
moved_tells content changes max_size p x None fits g small may e = refl
moved_tells content changes max_size p x (Some c) fits g small may e =
    let moves = patch_moves content changes max_size p x c fits g small may e in
    let now = with_more x (size_after p x) p.bytes in
    let told = moves.fits.each p.id now (get_inserted content p.id now) in
    let is = bytes_tell p.id (declared p.length x.length) (length p.bytes) c e in
    let through = changes ++ c ∷ [] in
    is.1 (offset_of through (id_of c)) (length_of through (id_of c))
    ∙ ap (λ u. is_whole (offset_of through u) (length_of through u)) is.0
    ∙ ap (λ o. is_whole o (length_of through p.id)) (sym told.2 ∙ length-append x.bytes p.bytes)
    ∙ ap (is_whole (length x.bytes + length p.bytes)) told.1

patch_tells : (s : State) (p : Patch) (asked : Asked) → IsSoundBook s → first_that_holds (rows_of s (request.Patch p) 0 asked) ≡ None → tells_finish s.journal.accepted (patch_change p (map.get s.content p.id)) ≡ completes s (request.Patch p)
patch_tells s p asked sound none =
    let step = patch_outcome p (map.get s.content p.id) in
    let passed = patch_passed s p asked step step (sym (ap (λ o. unless o step) none)) in
    let x = passed.0 in
    subst (λ found. tells_finish s.journal.accepted (patch_change p found) ≡ patch_completes p found) (sym passed.1)
    (moved_tells s.content s.journal.accepted s.max_size p x (patch_change p (Some x)) sound.fits passed.1 sound.small passed.2 refl)

-- ---- creations

create_tells : (s : State) (new : NewUpload) (id : ℕ) (asked : Asked) → IsSoundBook s → first_that_holds (rows_of s (request.Create new) id asked) ≡ None → tells_finish s.journal.accepted (change_of s (request.Create new) id) ≡ completes s (request.Create new)
create_tells s new id asked sound none =
    let changes = s.journal.accepted in
    let x = new_content s new in
    let fresh = (create_passed s new id asked tt tt (sym (ap (λ o. unless o (tt {0})) none))).0 in
    let was = sound_upload changes sound.legal id in
    let offset = offset_of-created changes id x.length x.kind fresh (was.no_length fresh) (was.no_bytes fresh) in
    let size = length_of-created changes id x.length x.kind (was.no_length fresh) in
    let through = changes ++ Created id x.length x.kind ∷ [] in
    has_finish-finish_at (offset_of through id) (length_of through id)
    ∙ ap (λ o. is_whole o (length_of through id)) (offset ∙ sym (made_bytes s.content new))
    ∙ ap (is_whole (length x.bytes)) size

-- ---- every request

tells : (s : State) (asks : Request) (id : ℕ) (asked : Asked) → IsSoundBook s → first_that_holds (rows_of s asks id asked) ≡ None → tells_finish s.journal.accepted (change_of s asks id) ≡ completes s asks
tells s request.Options id asked sound none = refl
tells s (request.Create new) id asked sound none = create_tells s new id asked sound none
tells s (request.Head u) id asked sound none = refl
tells s (request.Patch p) id asked sound none = patch_tells s p asked sound none
tells s (request.Delete u) id asked sound none = refl
tells s (request.Get u) id asked sound none = refl

pub completing_tells : CompletingTellsFinish
completing_tells s asks id asked done sound e =
    let decided : Done = record { response = response_to s asks id; change = change_of s asks id } in
    let refused = first_that_holds (rows_of s asks id asked) in
    let same = unless_same refused done decided (sym e) in
    ap (λ (d : Done). tells_finish s.journal.accepted d.change) same ∙ tells s asks id asked sound (unless_ok refused done decided (sym e))

-- ---- what was asked

allowed_by : (asked : Asked) (b : Bool) → first_that_holds (asked_rows b asked) ≡ None → b ≡ true → asked ≡ AllowedFinish
allowed_by Skipped b none complete = absurd (false≢true (sym (row_passed b refusal.NotAsked [] none).0 ∙ complete))
allowed_by Allowed b none complete = absurd (false≢true (sym (row_passed b refusal.NotAsked [] none).0 ∙ complete))
allowed_by AllowedFinish b none complete = refl
allowed_by (Refused status reason) b none complete = absurd (cc)

allowed : (s : State) (asks : Request) (id : ℕ) (asked : Asked) → first_that_holds (rows_of s asks id asked) ≡ None → completes s asks ≡ true → asked ≡ AllowedFinish
allowed s request.Options id asked none complete = absurd (false≢true complete)
allowed s (request.Create new) id asked none complete =
    let planned = planned_rows s (request.Create new) in
    let said = asked_rows (completes s (request.Create new)) asked in
    let taken : List (Row Refusal) = (is_known s.journal.accepted id, refusal.IdTaken) ∷ [] in
    allowed_by asked (completes s (request.Create new)) (append_passed planned said (append_passed (planned ++ said) taken none).0).1 complete
allowed s (request.Head u) id asked none complete = absurd (false≢true complete)
allowed s (request.Patch p) id asked none complete =
    allowed_by asked (completes s (request.Patch p)) (append_passed (planned_rows s (request.Patch p)) (asked_rows (completes s (request.Patch p)) asked) none).1 complete
allowed s (request.Delete u) id asked none complete = absurd (false≢true complete)
allowed s (request.Get u) id asked none complete = absurd (false≢true complete)

pub finish_allowed : FinishIsAllowed
finish_allowed s asks id asked done sound e told =
    let decided : Done = record { response = response_to s asks id; change = change_of s asks id } in
    let refused = first_that_holds (rows_of s asks id asked) in
    allowed s asks id asked (unless_ok refused done decided (sym e)) (sym (completing_tells s asks id asked done sound e) ∙ told)
