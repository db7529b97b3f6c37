-- The response to a request: the first refusal that holds, in the order of the table, or else the response with the
-- change.
use Rattle.std.specs.Prelude.{◌≡◌, ◌⊎◌, ◌+◌, ◌++◌, ℕ, Bool, true, false, not, ◌==◌, nat_lt, List, [], ◌∷◌, ◌&&◌, Option, Some, None, is_none, is_some, unwrap_or, Result, Ok, Err, IsOk, length, if◌then◌else◌}
use Rattle.std.specs.FinMap as map
use Rattle.std.specs.List.{list_any}
use Rattle.up_events.specs.History.{is_final_kind, is_known, is_whole}
use Rattle.up_events.specs.declared.event.Accepted.{Accepted}
use Rattle.up_events.specs.declared.event.Accepted.TheVariants.{Created, Appended, Declared, Terminated}
use Rattle.up_headers.specs.Creations.{is_above}
use Rattle.up_headers.specs.Rows.{Row, first_that_holds}
use Rattle.up_events.specs.declared.event.Kind.{Kind}
use Rattle.up_events.specs.declared.event.Kind.TheVariants.{Plain, Partial, Final}
use Rattle.up_headers.specs.declared.request.NewUpload.{NewUpload}
use Rattle.up_headers.specs.declared.request.NotDigits.{NotDigits}
use Rattle.up_headers.specs.declared.request.Patch.{Patch}
use Rattle.up_headers.specs.declared.request.Request.{Request}
use Rattle.up_headers.specs.declared.request.Request.TheVariants as request
use Rattle.up_machine.specs.Asks.{ask_of}
use Rattle.up_machine.specs.Content.{Content, declared, is_complete, made_of, patched, size_after}
use Rattle.up_machine.specs.Responses.{can_do, created, downloaded, reached_offset, removed, head_response}
use Rattle.up_machine.specs.State.{Contents, State, bytes_of, first_bytes, joined_parts}
use Rattle.up_machine.specs.declared.ask.Point.TheVariants as point
use Rattle.up_machine.specs.declared.checks.PatchOutcome.{PatchOutcome}
use Rattle.up_machine.specs.declared.plan.Asked.{Asked}
use Rattle.up_machine.specs.declared.plan.Asked.TheVariants.{Skipped, Allowed, AllowedFinish, Refused}
use Rattle.up_machine.specs.declared.plan.Done.{Done}
use Rattle.up_machine.specs.declared.plan.Plan.{Plan}
use Rattle.up_machine.specs.declared.plan.Plan.TheVariants.{Answer, Ask, AskBoth, Ready}
use Rattle.up_machine.specs.declared.refusal.Refusal.{Refusal}
use Rattle.up_machine.specs.declared.refusal.Refusal.TheVariants as refusal
use Rattle.up_message.specs.declared.response.Response.{Response}

-- ---- refusals

-- no upload has the id, or the rows of the upload that has it
abbrev pub rows_at : Option Content → (Content → List (Row Refusal)) → List (Row Refusal)
rows_at None rows = (true, refusal.NotFound) ∷ []
rows_at (Some x) rows = rows x

-- the offset that was sent is n
abbrev pub is_offset : Option ℕ → ℕ → Bool
is_offset None n = false
is_offset (Some m) n = m == n

-- whether this cannot be the length of an upload: it differs from the known one, or is less than the number of bytes so
-- far
abbrev pub is_contrary : ℕ → Option ℕ → ℕ → Bool
is_contrary size None offset = nat_lt size offset
is_contrary size (Some known) offset = not (size == known)

-- whether a length was sent that cannot be the upload's, or is not a number
abbrev pub is_bad_size : Option (Result ℕ NotDigits) → Content → Bool
is_bad_size None x = false
is_bad_size (Some (Err fault)) x = true
is_bad_size (Some (Ok size)) x = is_contrary size x.length (length x.bytes)

-- the rows of bytes for an upload
abbrev pub patch_rows : ℕ → Patch → Content → List (Row Refusal)
patch_rows max_size p x =
    (is_final_kind x.kind, refusal.FinalUpload)
    ∷ (not p.media, refusal.MediaType)
    ∷ (is_none p.offset, refusal.BadOffset)
    ∷ (not (is_offset p.offset (length x.bytes)), refusal.WrongOffset)
    ∷ (is_bad_size p.length x, refusal.BadDeclared)
    ∷ (is_above max_size (declared p.length x.length), refusal.DeclaredTooLong)
    ∷ (nat_lt (unwrap_or (size_after p x) max_size) (length x.bytes + length p.bytes), refusal.TooMuch)
    ∷ []

-- the rows of bytes for the upload that was found
abbrev pub commit_rows : Bool → ℕ → Patch → Option Content → List (Row Refusal)
commit_rows closed max_size p found = (closed, refusal.Closed) ∷ rows_at found (patch_rows max_size p)

-- the row of an upload whose bytes are requested
abbrev pub get_rows : Content → List (Row Refusal)
get_rows x = (not (is_complete x), refusal.Unfinished) ∷ []

-- whether the upload is meant as a part of final uploads
abbrev pub is_partial : Kind → Bool
is_partial Plain = false
is_partial Partial = true
is_partial Final = false

-- whether there is such an upload, and the test holds for it
abbrev pub passes : (Content → Bool) → Option Content → Bool
passes test None = false
passes test (Some x) = test x

-- the rows of the parts of a final upload; each row checks all parts
abbrev pub part_rows : Contents → ℕ → List ℕ → List (Row Refusal)
part_rows content max_size parts =
    (list_any (λ part. is_none (map.get content part)) parts, refusal.PartUnknown)
    ∷ (list_any (λ part. not (passes (λ x. is_partial x.kind) (map.get content part))) parts, refusal.PartNotPartial)
    ∷ (list_any (λ part. not (passes is_complete (map.get content part))) parts, refusal.PartUnfinished)
    ∷ (nat_lt max_size (length (joined_parts content parts)), refusal.SumTooLong)
    ∷ []

-- the upload that a creation results in
abbrev pub new_content : State → NewUpload → Content
new_content s new = made_of new (first_bytes s.content new)

-- the rows of a new upload
abbrev pub create_rows : Contents → ℕ → NewUpload → List (Row Refusal)
create_rows content max_size new = if is_final_kind new.kind then part_rows content max_size new.parts else []

-- the rows that a plan checks, in order
abbrev pub planned_rows : State → Request → List (Row Refusal)
planned_rows s request.Options = []
planned_rows s (request.Create new) = (s.closed, refusal.Closed) ∷ create_rows s.content s.max_size new
planned_rows s (request.Head u) = rows_at (map.get s.content u) (λ x. [])
planned_rows s (request.Patch p) = commit_rows s.closed s.max_size p (map.get s.content p.id)
planned_rows s (request.Delete u) = (s.closed, refusal.Closed) ∷ rows_at (map.get s.content u) (λ x. [])
planned_rows s (request.Get u) = rows_at (map.get s.content u) get_rows

-- the change for an optional declared length and `count` bytes; without both there is no change
abbrev pub change_by : ℕ → Option ℕ → ℕ → Option Accepted
change_by u None count = if count == 0 then None else Some (Appended u count)
change_by u (Some size) count = Some (Declared u size count)

-- the length that a PATCH declares
abbrev pub patch_declared : Patch → Option Content → Option ℕ
patch_declared p None = None
patch_declared p (Some x) = declared p.length x.length

-- what a PATCH changes
abbrev pub patch_change : Patch → Option Content → Option Accepted
patch_change p found = change_by p.id (patch_declared p found) (length p.bytes)

-- the length of the upload after a PATCH
abbrev pub patch_size : Patch → Option Content → Option ℕ
patch_size p None = None
patch_size p (Some x) = size_after p x

-- the offset of the upload after a PATCH
abbrev pub patch_offset : Patch → Option Content → ℕ
patch_offset p found = length (bytes_of found) + length p.bytes

-- whether a PATCH makes its upload complete: it changes the upload, which then has all of its bytes
abbrev pub patch_completes : Patch → Option Content → Bool
patch_completes p found = is_some (patch_change p found) && is_whole (patch_offset p found) (patch_size p found)

-- the result of a PATCH
abbrev pub patch_outcome : Patch → Option Content → PatchOutcome
patch_outcome p found =
    record { offset = patch_offset p found; size = patch_size p found; declared = patch_declared p found; completes = patch_completes p found }

-- whether a request that is not refused makes an upload complete
abbrev pub completes : State → Request → Bool
completes s request.Options = false
completes s (request.Create new) = is_complete (new_content s new)
completes s (request.Head u) = false
completes s (request.Patch p) = patch_completes p (map.get s.content p.id)
completes s (request.Delete u) = false
completes s (request.Get u) = false

-- the rows of what the closures said before a change: a request that would complete an upload is refused if nobody was
-- asked about that, and so is a request that a closure refuses
abbrev pub asked_rows : Bool → Asked → List (Row Refusal)
asked_rows completes Skipped = (completes, refusal.NotAsked) ∷ []
asked_rows completes Allowed = (completes, refusal.NotAsked) ∷ []
asked_rows completes AllowedFinish = []
asked_rows completes (Refused status reason) = (true, refusal.ByHook status reason) ∷ []

-- whether a closure may refuse this request
abbrev pub is_asked : Request → Bool
is_asked request.Options = false
is_asked (request.Create new) = true
is_asked (request.Head u) = false
is_asked (request.Patch p) = true
is_asked (request.Delete u) = true
is_asked (request.Get u) = false

-- whether a closure refuses
abbrev pub is_refusal : Asked → Bool
is_refusal Skipped = false
is_refusal Allowed = false
is_refusal AllowedFinish = false
is_refusal (Refused status reason) = true

-- the rows that a commit checks: after those of the plan, what the closures said, and whether the new id was given
-- before
abbrev pub rows_of : State → Request → ℕ → Asked → List (Row Refusal)
rows_of s (request.Create new) id asked =
    planned_rows s (request.Create new) ++ asked_rows (completes s (request.Create new)) asked ++ (is_known s.journal.accepted id, refusal.IdTaken) ∷ []
rows_of s (request.Patch p) id asked = planned_rows s (request.Patch p) ++ asked_rows (completes s (request.Patch p)) asked
rows_of s (request.Delete u) id asked = planned_rows s (request.Delete u) ++ asked_rows (completes s (request.Delete u)) asked
rows_of s request id asked = planned_rows s request

-- ---- responses and changes

-- the response to a request that no row refuses
abbrev pub response_to : State → Request → ℕ → Response
response_to s request.Options id = can_do s.max_size
response_to s (request.Create new) id = created id
response_to s (request.Head u) id = head_response (map.get s.content u)
response_to s (request.Patch p) id = reached_offset (patch_offset p (map.get s.content p.id))
response_to s (request.Delete u) id = removed
response_to s (request.Get u) id = downloaded (bytes_of (map.get s.content u))

-- the change of a request that no row refuses
abbrev pub change_of : State → Request → ℕ → Option Accepted
change_of s request.Options id = None
change_of s (request.Create new) id = let x = new_content s new in Some (Created id x.length x.kind)
change_of s (request.Head u) id = None
change_of s (request.Patch p) id = patch_change p (map.get s.content p.id)
change_of s (request.Delete u) id = Some (Terminated u)
change_of s (request.Get u) id = None

-- ---- the decision

-- the refusal, or else this value
abbrev pub unless : {T : Type 0} → Option Refusal → T → Result T Refusal
unless None x = Ok x
unless (Some r) x = Err r

-- the first refusal of these rows that holds, or else this value
abbrev pub checked : {T : Type 0} → List (Row Refusal) → T → Result T Refusal
checked rows x = unless (first_that_holds rows) x

-- the decision on a request
abbrev pub decide : State → Request → ℕ → Asked → Result Done Refusal
decide s request id asked =
    checked (rows_of s request id asked) (record { response = response_to s request id; change = change_of s request id })

-- the decision on a request that changes nothing
abbrev pub answer_to : State → Request → Result Response Refusal
answer_to s request = checked (planned_rows s request) (response_to s request 0)

-- what is asked before an upload is created, and also whether it may be complete at once
abbrev pub plan_to_create : Content → Plan
plan_to_create x =
    if is_complete x then AskBoth (ask_of point.Create None x) (ask_of point.Finish None x) else Ask (ask_of point.Create None x)

-- what is asked before bytes are appended: whether the upload may be complete with them
abbrev pub plan_to_take : Patch → Option Content → Plan
plan_to_take p None = Ready
plan_to_take p (Some x) = if patch_completes p (Some x) then Ask (ask_of point.Finish (Some p.id) (patched p x)) else Ready

-- what is asked before an upload is removed
abbrev pub plan_to_remove : ℕ → Option Content → Plan
plan_to_remove u None = Ready
plan_to_remove u (Some x) = Ask (ask_of point.Terminate (Some u) x)

-- a request that changes nothing gets its response at once; closures are asked about a request that creates, completes
-- or removes an upload; other bytes are ready to be committed
abbrev pub plan_of : State → Request → Plan
plan_of s request.Options = Answer (response_to s request.Options 0)
plan_of s (request.Create new) = plan_to_create (new_content s new)
plan_of s (request.Head u) = Answer (response_to s (request.Head u) 0)
plan_of s (request.Patch p) = plan_to_take p (map.get s.content p.id)
plan_of s (request.Delete u) = plan_to_remove u (map.get s.content u)
plan_of s (request.Get u) = Answer (response_to s (request.Get u) 0)

-- the decision at planning
abbrev pub decide_plan : State → Request → Result Plan Refusal
decide_plan s request = checked (planned_rows s request) (plan_of s request)

-- the result is the expected one, or memory ran out and the expected one is no refusal
abbrev pub IsExpectedOrNoMemory : {T : Type 0} → Result T Refusal → Result T Refusal → Type 0
IsExpectedOrNoMemory result expected = (result ≡ expected) ⊎ ((result ≡ Err refusal.NoMemory) × IsOk expected)
