-- Books that look alike to a request decide it alike.
use Rattle.std.proofs.Common.{◌≡◌, ℕ, Bool, true, false, cond, not, ◌||◌, Option, Some, None, is_none, Result, List, [], ◌∷◌, ◌++◌, length, refl, sym, ap, ◌∙◌}
use Rattle.std.specs.FinMap as map
use Rattle.std.specs.Prelude.{nat_lt}
use Rattle.std.specs.List.{list_any}
use Rattle.std.proofs.lemmas.Bool.{false≢true}
use Rattle.up_events.specs.History.{is_final_kind, is_known}
use Rattle.up_events.specs.declared.event.Accepted.TheVariants.{Created, Terminated}
use Rattle.up_headers.specs.Rows.{Row}
use Rattle.up_headers.specs.declared.request.NewUpload.{NewUpload}
use Rattle.up_headers.specs.declared.request.Patch.{Patch}
use Rattle.up_headers.specs.declared.request.Request.{Request}
use Rattle.up_headers.specs.declared.request.Request.TheVariants as request
use Rattle.up_machine.specs.Content.{Content, is_complete, made_of}
use Rattle.up_machine.specs.Decision.{asked_rows, checked, create_rows, decide, get_rows, is_partial, part_rows, passes, patch_change, patch_completes, patch_offset, rows_at, commit_rows}
use Rattle.up_machine.specs.Responses.{can_do, created, downloaded, reached_offset, removed, head_response}
use Rattle.up_machine.specs.State.{Contents, State, bytes_of, first_bytes, joined_parts}
use Rattle.up_machine.specs.declared.plan.Asked.{Asked}
use Rattle.up_machine.specs.declared.plan.Done.{Done}
use Rattle.up_machine.specs.declared.refusal.Refusal.{Refusal}
use Rattle.up_machine.specs.declared.refusal.Refusal.TheVariants as refusal
use Rattle.up_compact.specs.Shorter.{IsWithout, OthersAreDecidedAlike, is_about, joined_uploads}
use Rattle.up_compact.proofs.Others.{others_known}

-- what the second book has for a request is what the first has
abbrev pub LooksAlike : State → State → Request → ℕ → Type 0
LooksAlike s t request.Options id = Unit {0}
LooksAlike s t (request.Create new) id =
    (create_rows t.content s.max_size new ≡ create_rows s.content s.max_size new)
    × (first_bytes t.content new ≡ first_bytes s.content new)
    × (is_known t.journal.accepted id ≡ is_known s.journal.accepted id)
LooksAlike s t (request.Head u) id = map.get t.content u ≡ map.get s.content u
LooksAlike s t (request.Patch p) id = map.get t.content p.id ≡ map.get s.content p.id
LooksAlike s t (request.Delete u) id = map.get t.content u ≡ map.get s.content u
LooksAlike s t (request.Get u) id = map.get t.content u ≡ map.get s.content u

-- ---- the decision, as far as it looks at the book

abbrev create_decision : NewUpload → ℕ → Asked → Bool → List (Row Refusal) → List ℕ → Bool → Result Done Refusal
create_decision new id asked closed rows bytes known =
    let x = made_of new bytes in
    checked (((closed, refusal.Closed) ∷ rows) ++ asked_rows (is_complete x) asked ++ (known, refusal.IdTaken) ∷ [])
    (record { response = created id; change = Some (Created id x.length x.kind) })

abbrev pub patch_decision : Patch → Asked → Bool → ℕ → Option Content → Result Done Refusal
patch_decision p asked closed max_size found =
    checked (commit_rows closed max_size p found ++ asked_rows (patch_completes p found) asked)
    (record { response = reached_offset (patch_offset p found); change = patch_change p found })

abbrev pub delete_decision : ℕ → Asked → Bool → Option Content → Result Done Refusal
delete_decision u asked closed found =
    checked (((closed, refusal.Closed) ∷ rows_at found (λ x. [])) ++ asked_rows false asked)
    (record { response = removed; change = Some (Terminated u) })

abbrev head_decision : Option Content → Result Done Refusal
head_decision found = checked (rows_at found (λ x. [])) (record { response = head_response found; change = None })

abbrev get_decision : Option Content → Result Done Refusal
get_decision found = checked (rows_at found get_rows) (record { response = downloaded (bytes_of found); change = None })

abbrev options_decision : ℕ → Result Done Refusal
options_decision max_size = checked [] (record { response = can_do max_size; change = None })

pub decided_alike : (s t : State) (r : Request) (id : ℕ) (asked : Asked) → t.closed ≡ s.closed → t.max_size ≡ s.max_size → LooksAlike s t r id → decide t r id asked ≡ decide s r id asked
decided_alike s t request.Options id asked closed size looks = ap options_decision size
decided_alike s t (request.Create new) id asked closed size looks =
    ap (λ b. create_decision new id asked b (create_rows t.content t.max_size new) (first_bytes t.content new) (is_known t.journal.accepted id)) closed
    ∙ ap (λ n. create_decision new id asked s.closed (create_rows t.content n new) (first_bytes t.content new) (is_known t.journal.accepted id)) size
    ∙ ap (λ rows. create_decision new id asked s.closed rows (first_bytes t.content new) (is_known t.journal.accepted id)) looks.0
    ∙ ap (λ bytes. create_decision new id asked s.closed (create_rows s.content s.max_size new) bytes (is_known t.journal.accepted id)) looks.1
    ∙ ap (create_decision new id asked s.closed (create_rows s.content s.max_size new) (first_bytes s.content new)) looks.2
decided_alike s t (request.Head u) id asked closed size looks = ap head_decision looks
decided_alike s t (request.Patch p) id asked closed size looks =
    ap (λ b. patch_decision p asked b t.max_size (map.get t.content p.id)) closed
    ∙ ap (λ n. patch_decision p asked s.closed n (map.get t.content p.id)) size
    ∙ ap (patch_decision p asked s.closed s.max_size) looks
decided_alike s t (request.Delete u) id asked closed size looks =
    ap (λ b. delete_decision u asked b (map.get t.content u)) closed ∙ ap (delete_decision u asked s.closed) looks
decided_alike s t (request.Get u) id asked closed size looks = ap get_decision looks

-- ---- parts of which nothing was left out

or_false : (a b : Bool) → (a || b) ≡ false → (a ≡ false) × (b ≡ false)
or_false true b e = absurd (false≢true (sym e))
or_false false b e = (refl, e)

module _ (among : ℕ → Bool) (c d : Contents) (same : (u : ℕ) → among u ≡ false → map.get d u ≡ map.get c u) where
  any_alike : (f : Option Content → Bool) (parts : List ℕ) → list_any among parts ≡ false → list_any (λ part. f (map.get d part)) parts ≡ list_any (λ part. f (map.get c part)) parts
  any_alike f [] none = refl
  any_alike f (part ∷ parts) none =
      let h = or_false (among part) (list_any among parts) none in
      ap (λ o. f o || list_any (λ part. f (map.get d part)) parts) (same part h.0)
      ∙ ap (λ b. f (map.get c part) || b) (any_alike f parts h.1)

  joined_alike : (parts : List ℕ) → list_any among parts ≡ false → joined_parts d parts ≡ joined_parts c parts
  joined_alike [] none = refl
  joined_alike (part ∷ parts) none =
      let h = or_false (among part) (list_any among parts) none in
      ap (λ o. bytes_of o ++ joined_parts d parts) (same part h.0) ∙ ap (λ l. bytes_of (map.get c part) ++ l) (joined_alike parts h.1)

  part_rows_alike : (max_size : ℕ) (parts : List ℕ) → list_any among parts ≡ false → part_rows d max_size parts ≡ part_rows c max_size parts
  part_rows_alike max_size parts none =
      let rows : Bool → Bool → Bool → List ℕ → List (Row Refusal) = λ unknown other unfinished bytes. (unknown, refusal.PartUnknown) ∷ (other, refusal.PartNotPartial) ∷ (unfinished, refusal.PartUnfinished) ∷ (nat_lt max_size (length bytes), refusal.SumTooLong) ∷ [] in
      let other : Option Content → Bool = λ o. not (passes (λ x. is_partial x.kind) o) in
      let unfinished : Option Content → Bool = λ o. not (passes is_complete o) in
      ap (λ b. rows b (list_any (λ part. other (map.get d part)) parts) (list_any (λ part. unfinished (map.get d part)) parts) (joined_parts d parts)) (any_alike (λ o. is_none o) parts none)
      ∙ ap (λ b. rows (list_any (λ part. is_none (map.get c part)) parts) b (list_any (λ part. unfinished (map.get d part)) parts) (joined_parts d parts)) (any_alike other parts none)
      ∙ ap (λ b. rows (list_any (λ part. is_none (map.get c part)) parts) (list_any (λ part. other (map.get c part)) parts) b (joined_parts d parts)) (any_alike unfinished parts none)
      ∙ ap (λ l. rows (list_any (λ part. is_none (map.get c part)) parts) (list_any (λ part. other (map.get c part)) parts) (list_any (λ part. unfinished (map.get c part)) parts) l) (joined_alike parts none)

  create_rows_alike : (max_size : ℕ) (new : NewUpload) → list_any among (cond (is_final_kind new.kind) new.parts []) ≡ false → create_rows d max_size new ≡ create_rows c max_size new
  create_rows_alike max_size new none =
      elim (is_final_kind new.kind) as (λ b. list_any among (cond b new.parts []) ≡ false → cond b (part_rows d max_size new.parts) [] ≡ cond b (part_rows c max_size new.parts) []) [
        | true ↦ λ none. part_rows_alike max_size new.parts none
        | false ↦ λ none. refl
      ] none

  first_bytes_alike : (new : NewUpload) → list_any among (cond (is_final_kind new.kind) new.parts []) ≡ false → first_bytes d new ≡ first_bytes c new
  first_bytes_alike new none =
      elim (is_final_kind new.kind) as (λ b. list_any among (cond b new.parts []) ≡ false → cond b (joined_parts d new.parts) [] ≡ cond b (joined_parts c new.parts) []) [
        | true ↦ λ none. joined_alike new.parts none
        | false ↦ λ none. refl
      ] none

pub others_look : (among : ℕ → Bool) (s t : State) (r : Request) (id : ℕ) → IsWithout among s t → is_about among r id ≡ false → list_any among (joined_uploads r) ≡ false → LooksAlike s t r id
others_look among s t request.Options id w other joins = tt
others_look among s t (request.Create new) id w other joins = (
  create_rows_alike among s.content t.content w.content s.max_size new joins,
  first_bytes_alike among s.content t.content w.content new joins,
  others_known among s t id w other,
)
others_look among s t (request.Head u) id w other joins = w.content u other
others_look among s t (request.Patch p) id w other joins = w.content p.id other
others_look among s t (request.Delete u) id w other joins = w.content u other
others_look among s t (request.Get u) id w other joins = w.content u other

pub others_decided : OthersAreDecidedAlike
others_decided among s t r id asked w other joins = decided_alike s t r id asked w.closed w.max_size (others_look among s t r id w other joins)
