-- What is known where no refusal holds.
use Rattle.std.proofs.Common.{◌≡◌, ℕ, ◌+◌, ◌≤◌, ◌^◌, Bool, true, false, cond, ◌&&◌, Option, Some, None, is_none, unwrap_or, Result, Ok, Err, IsErrAnd, inl, List, [], ◌∷◌, ◌++◌, length, refl, sym, ap, ◌∙◌, arith}
use Rattle.std.specs.FinMap as map
use Rattle.std.proofs.lemmas.Bool.{ltb-false}
use Rattle.std.proofs.lemmas.Result.{err_from_is_err_and}
use Rattle.up_machine.specs.Content.{Content, IsWithinLength, declared, is_complete, made_of, size_after}
use Rattle.up_headers.specs.Rows.{Row, first_that_holds}
use Rattle.up_machine.specs.State.{Contents, State, first_bytes, joined_parts}
use Rattle.up_machine.specs.Decision.{IsExpectedOrNoMemory, unless, asked_rows, change_by, change_of, decide, new_content, patch_completes, response_to, patch_outcome, create_rows, part_rows, rows_at, patch_rows, rows_of, planned_rows}
use Rattle.up_machine.specs.declared.refusal.Refusal.{Refusal}
use Rattle.up_headers.specs.declared.request.NewUpload.{NewUpload}
use Rattle.up_headers.specs.declared.request.Patch.{Patch}
use Rattle.up_headers.specs.declared.request.Request.TheVariants as request
use Rattle.up_machine.specs.declared.plan.Asked.{Asked}
use Rattle.up_machine.specs.declared.refusal.Refusal.TheVariants as refusal
use Rattle.up_events.specs.History.{is_final_kind, is_known, max_length_of}
use Rattle.up_headers.specs.Creations.{IsAtMost, is_above}
use Rattle.up_machine.specs.Responses.{reached_offset}
use Rattle.up_machine.specs.declared.checks.PatchOutcome.{PatchOutcome}
use Rattle.up_machine.specs.declared.plan.Done.{Done}

pub unless_ok : {T : Type 0} (o : Option Refusal) (n m : T) → Ok n ≡ unless o m → o ≡ None
unless_ok None n m e = refl
unless_ok (Some r) n m e = absurd (cc)

pub unless_same : {T : Type 0} (o : Option Refusal) (n m : T) → Ok n ≡ unless o m → n ≡ m
unless_same None n m e = cc
unless_same (Some r) n m e = absurd (cc)

refused_alike : {T S : Type 0} (o : Option Refusal) (n : T) (m : S) (r : Refusal) → Err r ≡ unless o n → Err r ≡ unless o m
refused_alike None n m r e = absurd (cc)
refused_alike (Some found) n m r e = let h : r ≡ found = cc in ap Err h

-- what refuses a check refuses the request, whatever would have come of it
pub refused_by : {T S : Type 0} (o : Option Refusal) (n : T) (m : S) (r : Refusal) (result : Result S Refusal) → IsErrAnd result (λ e. e ≡ r) → Err r ≡ unless o n → IsExpectedOrNoMemory result (unless o m)
refused_by o n m r result handed e =
    let p = err_from_is_err_and result handed in
    inl (p.1 ∙ ap Err p.2 ∙ refused_alike o n m r e)

unless_err : {T : Type 0} (o : Option Refusal) (n : T) (r : Refusal) → Err r ≡ unless o n → o ≡ Some r
unless_err None n r e = absurd (cc)
unless_err (Some found) n r e = let h : found ≡ r = cc in ap Some h

-- more rows behind the one that holds change nothing
pub found_before : (xs ys : List (Row Refusal)) (r : Refusal) → first_that_holds xs ≡ Some r → first_that_holds (xs ++ ys) ≡ Some r
found_before [] ys r e = absurd (cc)
found_before (row ∷ xs) ys r e = elim row.0 as (λ b. cond b (Some row.1) (first_that_holds xs) ≡ Some r → cond b (Some row.1) (first_that_holds (xs ++ ys)) ≡ Some r) [
  | true ↦ λ e. e
  | false ↦ λ e. found_before xs ys r e
] e

-- what refuses the first checks refuses them with more behind
pub refused_before : {T S : Type 0} (xs ys : List (Row Refusal)) (n : T) (m : S) (r : Refusal) (result : Result S Refusal) → IsErrAnd result (λ e. e ≡ r) → Err r ≡ unless (first_that_holds xs) n → result ≡ unless (first_that_holds (xs ++ ys)) m
refused_before xs ys n m r result handed e =
    let p = err_from_is_err_and result handed in
    p.1 ∙ ap Err p.2 ∙ sym (ap (λ o. unless o m) (found_before xs ys r (unless_err (first_that_holds xs) n r e)))

pub row_passed : (b : Bool) (r : Refusal) (rows : List (Row Refusal)) → first_that_holds ((b, r) ∷ rows) ≡ None → (b ≡ false) × (first_that_holds rows ≡ None)
row_passed true r rows e = absurd (cc)
row_passed false r rows e = (refl, e)

at_passed : (o : Option Content) (rows : Content → List (Row Refusal)) → first_that_holds (rows_at o rows) ≡ None → (x : Content) × (o ≡ Some x) × (first_that_holds (rows x) ≡ None)
at_passed None rows e = absurd (cc)
at_passed (Some x) rows e = (x, refl, e)

-- none of the rows holds
abbrev NoneHolds : List (Row Refusal) → Type 0
NoneHolds [] = Unit {0}
NoneHolds (row ∷ rows) = (row.0 ≡ false) × NoneHolds rows

none_holds : (rows : List (Row Refusal)) → first_that_holds rows ≡ None → NoneHolds rows
none_holds [] e = tt
none_holds (row ∷ rows) e = let h = row_passed row.0 row.1 rows e in (h.0, none_holds rows h.1)

-- what no row of a patch refuses: the upload isn't final, a length that is declared isn't too long, and there is room for the bytes
pub record MayTake (max_size : ℕ) (p : Patch) (x : Content) : Type 0 where
  pub plain : is_final_kind x.kind ≡ false
  pub short : is_above max_size (declared p.length x.length) ≡ false
  pub room : length x.bytes + length p.bytes ≤ unwrap_or (size_after p x) max_size

pub append_passed : (xs ys : List (Row Refusal)) → first_that_holds (xs ++ ys) ≡ None → (first_that_holds xs ≡ None) × (first_that_holds ys ≡ None)
append_passed [] ys e = (refl, e)
append_passed (row ∷ xs) ys e =
    let h = row_passed row.0 row.1 (xs ++ ys) e in
    let t = append_passed xs ys h.1 in
    (ap (λ b. cond b (Some row.1) (first_that_holds xs)) h.0 ∙ t.0, t.1)

pub patch_passed : (s : State) (p : Patch) (asked : Asked) (n m : PatchOutcome) → Ok n ≡ unless (first_that_holds (rows_of s (request.Patch p) 0 asked)) m → (x : Content) × (map.get s.content p.id ≡ Some x) × MayTake s.max_size p x × (n ≡ m)
patch_passed s p asked n m e =
    let refused = first_that_holds (rows_of s (request.Patch p) 0 asked) in
    let planned = append_passed (planned_rows s (request.Patch p)) (asked_rows (patch_completes p (map.get s.content p.id)) asked) (unless_ok refused n m e) in
    let opened = row_passed s.closed refusal.Closed (rows_at (map.get s.content p.id) (patch_rows s.max_size p)) planned.0 in
    let there = at_passed (map.get s.content p.id) (patch_rows s.max_size p) opened.1 in
    let rows = none_holds (patch_rows s.max_size p there.0) there.2 in
    let may : MayTake s.max_size p there.0 = record {
      plain = rows.0;
      short = rows.1.1.1.1.1.0;
      room = ltb-false (unwrap_or (size_after p there.0) s.max_size) (length there.0.bytes + length p.bytes) rows.1.1.1.1.1.1.0;
    } in
    (there.0, there.1, may, unless_same refused n m e)

-- the decision on a patch that nothing refuses
pub decided : (s : State) (p : Patch) (asked : Asked) (step : PatchOutcome) → Ok step ≡ unless (first_that_holds (rows_of s (request.Patch p) 0 asked)) (patch_outcome p (map.get s.content p.id)) → decide s (request.Patch p) 0 asked ≡ Ok (record { response = reached_offset step.offset; change = change_by p.id step.declared (length p.bytes) })
decided s p asked step e =
    let done : Done = record { response = response_to s (request.Patch p) 0; change = change_of s (request.Patch p) 0 } in
    ap (λ o. unless o done) (unless_ok (first_that_holds (rows_of s (request.Patch p) 0 asked)) step (patch_outcome p (map.get s.content p.id)) e)
    ∙ ap (λ (n : PatchOutcome). Ok (record { response = reached_offset n.offset; change = change_by p.id n.declared (length p.bytes) })) (sym (unless_same (first_that_holds (rows_of s (request.Patch p) 0 asked)) step (patch_outcome p (map.get s.content p.id)) e))

-- parts that nothing refuses are together no longer than an upload may be
parts_passed : (content : Contents) (max_size : ℕ) (new : NewUpload) → first_that_holds (create_rows content max_size new) ≡ None → is_final_kind new.kind ≡ true → length (joined_parts content new.parts) ≤ max_size
parts_passed content max_size new e final =
    let rows : first_that_holds (part_rows content max_size new.parts) ≡ None = sym (ap (λ b. first_that_holds (cond b (part_rows content max_size new.parts) [])) final) ∙ e in
    ltb-false max_size (length (joined_parts content new.parts)) (none_holds (part_rows content max_size new.parts) rows).1.1.1.0

-- a creation that nothing refuses has an id that was never given, and parts that are not too long
pub create_passed : (s : State) (new : NewUpload) (id : ℕ) (asked : Asked) (r m : Unit {0}) → Ok r ≡ unless (first_that_holds (rows_of s (request.Create new) id asked)) m → (is_known s.journal.accepted id ≡ false) × (is_final_kind new.kind ≡ true → length (joined_parts s.content new.parts) ≤ s.max_size)
create_passed s new id asked r m e =
    let all = unless_ok (first_that_holds (rows_of s (request.Create new) id asked)) r m e in
    let taken : List (Row Refusal) = (is_known s.journal.accepted id, refusal.IdTaken) ∷ [] in
    let said = asked_rows (is_complete (new_content s new)) asked in
    let both = append_passed (planned_rows s (request.Create new) ++ said) taken all in
    let planned = append_passed (planned_rows s (request.Create new)) said both.0 in
    let opened = row_passed s.closed refusal.Closed (create_rows s.content s.max_size new) planned.0 in
    ((none_holds taken both.1).0, parts_passed s.content s.max_size new opened.1)

-- ---- new uploads

-- a new upload has all of its bytes where it is final, and none where it isn't
pub made_bytes : (content : Contents) (new : NewUpload) → length (first_bytes content new) ≡ cond (is_final_kind new.kind) (unwrap_or (made_of new (first_bytes content new)).length 0) 0
made_bytes content new = elim (is_final_kind new.kind) as (λ b. length (cond b (joined_parts content new.parts) []) ≡ cond b (unwrap_or (cond b (Some (length (cond b (joined_parts content new.parts) []))) new.length) 0) 0) [ true ↦ refl | false ↦ refl ]

pub made_within : (content : Contents) (new : NewUpload) → IsWithinLength (made_of new (first_bytes content new))
made_within content new = elim (is_final_kind new.kind) as (λ b. length (cond b (joined_parts content new.parts) []) ≤ max_length_of (cond b (Some (length (cond b (joined_parts content new.parts) []))) new.length)) [ true ↦ omega arith | false ↦ omega arith ]

-- a final one has a length
pub made_sized : (content : Contents) (new : NewUpload) → (is_final_kind new.kind && is_none (made_of new (first_bytes content new)).length) ≡ false
made_sized content new = elim (is_final_kind new.kind) as (λ b. (b && is_none (cond b (Some (length (cond b (joined_parts content new.parts) []))) new.length)) ≡ false) [ true ↦ refl | false ↦ refl ]

within_most : (size : Option ℕ) → IsAtMost (2 ^ 30) size → max_length_of size ≤ 2 ^ 30
within_most None small = omega arith
within_most (Some n) small = small

-- its length is at most 2^30
pub made_small : (content : Contents) (max_size : ℕ) (new : NewUpload) → IsAtMost (2 ^ 30) new.length → max_size ≤ 2 ^ 30 → (is_final_kind new.kind ≡ true → length (joined_parts content new.parts) ≤ max_size) → max_length_of (made_of new (first_bytes content new)).length ≤ 2 ^ 30
made_small content max_size new small most sum = elim (is_final_kind new.kind) as (λ b. (b ≡ true → length (joined_parts content new.parts) ≤ max_size) → max_length_of (cond b (Some (length (cond b (joined_parts content new.parts) []))) new.length) ≤ 2 ^ 30) [
  | true ↦ λ sum. omega (arith, sum refl)
  | false ↦ λ sum. within_most new.length small
] sum

-- the bytes that it begins with are no more, and none unless it is final
pub first_small : (content : Contents) (max_size : ℕ) (new : NewUpload) → IsAtMost (2 ^ 30) new.length → max_size ≤ 2 ^ 30 → (is_final_kind new.kind ≡ true → length (joined_parts content new.parts) ≤ max_size) → length (first_bytes content new) ≤ 2 ^ 30
first_small content max_size new small most sum = omega (arith, made_within content new, made_small content max_size new small most sum)

pub first_none : (content : Contents) (new : NewUpload) → is_final_kind new.kind ≡ false → first_bytes content new ≡ []
first_none content new other = ap (λ b. cond b (joined_parts content new.parts) []) other
