-- The list of accepted changes: when it is legal, what it says about each upload, and which events it results in.
use Rattle.std.specs.Prelude.{◌≡◌, ℕ, ◌+◌, ◌≤◌, Bool, true, false, ◌&&◌, not, Option, Some, None, is_some, is_none, unwrap_or, List, [], ◌∷◌, ◌++◌, sum_by, if◌then◌else◌, ◌==◌}
use Rattle.std.specs.List.{list_any}
use Rattle.up_events.specs.Lists.{gather, EachFollows, first_given}
use Rattle.up_events.specs.declared.limits.TheConstants.{MAX_UPLOAD_BYTES}
use Rattle.up_events.specs.declared.event.Accepted.{Accepted}
use Rattle.up_events.specs.declared.event.Accepted.TheVariants.{Created, Appended, Declared, Terminated}
use Rattle.up_events.specs.declared.event.Hook.{Hook}
use Rattle.up_events.specs.declared.event.Hook.TheVariants.{Create, Receive, Finish, Terminate}
use Rattle.up_events.specs.declared.event.Kind.{Kind}
use Rattle.up_events.specs.declared.event.Kind.TheVariants.{Plain, Partial, Final}

-- the upload that a change belongs to
abbrev pub id_of : Accepted → ℕ
id_of (Created id length kind) = id
id_of (Appended id count) = id
id_of (Declared id length count) = id
id_of (Terminated id) = id

-- the kind of this upload, if the change gives it
abbrev pub kind_in : ℕ → Accepted → Option Kind
kind_in u (Created id length kind) = if id == u then Some kind else None
kind_in u (Appended id count) = None
kind_in u (Declared id length count) = None
kind_in u (Terminated id) = None

-- the length of this upload, if the change gives it
abbrev pub length_in : ℕ → Accepted → Option ℕ
length_in u (Created id length kind) = if id == u then length else None
length_in u (Appended id count) = None
length_in u (Declared id length count) = if id == u then Some length else None
length_in u (Terminated id) = None

-- how many bytes the change adds to this upload
abbrev pub bytes_in : ℕ → Accepted → ℕ
bytes_in u (Created id length kind) = 0
bytes_in u (Appended id count) = if id == u then count else 0
bytes_in u (Declared id length count) = if id == u then count else 0
bytes_in u (Terminated id) = 0

-- whether the change ends this upload
abbrev pub ends : ℕ → Accepted → Bool
ends u (Created id length kind) = false
ends u (Appended id count) = false
ends u (Declared id length count) = false
ends u (Terminated id) = id == u

-- the kind that an upload was created with
unfoldable pub kind_of : List Accepted → ℕ → Option Kind
kind_of changes u = first_given (kind_in u) changes

-- the length of the complete upload, in bytes: none while it is not known
unfoldable pub length_of : List Accepted → ℕ → Option ℕ
length_of changes u = first_given (length_in u) changes

-- the number of bytes that were appended to an upload
unfoldable pub received : List Accepted → ℕ → ℕ
received changes u = sum_by (bytes_in u) changes

-- whether an upload of this kind gets its bytes from the parts that it joins
abbrev pub is_final_kind : Kind → Bool
is_final_kind Plain = false
is_final_kind Partial = false
is_final_kind Final = true

-- whether this is the kind of a final upload
abbrev pub is_final : Option Kind → Bool
is_final None = false
is_final (Some kind) = is_final_kind kind

-- the offset of an upload: the length of a final one, and for any other the number of bytes that were appended to it
unfoldable pub offset_of : List Accepted → ℕ → ℕ
offset_of changes u = if is_final (kind_of changes u) then unwrap_or (length_of changes u) 0 else received changes u

-- whether an upload was ever created
abbrev pub is_known : List Accepted → ℕ → Bool
is_known changes u = is_some (kind_of changes u)

-- whether some change terminated an upload
unfoldable pub is_terminated : List Accepted → ℕ → Bool
is_terminated changes u = list_any (ends u) changes

-- whether an upload exists: it was created, and not terminated
abbrev pub is_alive : List Accepted → ℕ → Bool
is_alive changes u = is_known changes u && not (is_terminated changes u)

-- the maximum number of bytes of an upload of this length: 2^30 while the length is not known
abbrev pub max_length_of : Option ℕ → ℕ
max_length_of length = unwrap_or length MAX_UPLOAD_BYTES

-- an upload that exists and is not final
abbrev pub IsOpen : List Accepted → ℕ → Type 0
IsOpen before u = (is_alive before u ≡ true) × (is_final (kind_of before u) ≡ false)

-- the changes that may be accepted after these:
-- - the creation of a new upload of at most 2^30 bytes, with a known length if it is a final one
-- - the append of at least one byte to an upload that exists and is not final, up to its length
-- - the declaration of a length of at most 2^30 bytes for such an upload while its length is not known, with bytes up
--   to that length, perhaps none
-- - the termination of an upload that exists
abbrev pub CanFollow : List Accepted → Accepted → Type 0
CanFollow before (Created id length kind) = (is_known before id ≡ false) × (max_length_of length ≤ MAX_UPLOAD_BYTES) × ((is_final_kind kind && is_none length) ≡ false)
CanFollow before (Appended id count) = IsOpen before id × (1 ≤ count) × (offset_of before id + count ≤ max_length_of (length_of before id))
CanFollow before (Declared id length count) = IsOpen before id × (length_of before id ≡ None) × (offset_of before id + count ≤ length) × (length ≤ MAX_UPLOAD_BYTES)
CanFollow before (Terminated id) = is_alive before id ≡ true

-- each change can follow those before it
abbrev pub IsLegal : List Accepted → Type 0
IsLegal changes = EachFollows CanFollow [] changes

-- ---- events

-- an event without id and number: the hook, the offset and the length
abbrev pub EventBody : Type 0
EventBody = Hook × ℕ × Option ℕ

-- whether all bytes have arrived: the length is known, and the offset is the length
abbrev pub is_whole : ℕ → Option ℕ → Bool
is_whole offset None = false
is_whole offset (Some length) = offset == length

-- a post-finish, if the offset is the length
abbrev pub finish_at : ℕ → Option ℕ → List EventBody
finish_at offset length = if is_whole offset length then (Finish, offset, length) ∷ [] else []

-- a post-receive, if there are bytes
abbrev pub receive_at : ℕ → ℕ → Option ℕ → List EventBody
receive_at count offset length = if count == 0 then [] else (Receive, offset, length) ∷ []

-- the events of a change, at the offset that it reaches and with the length of its upload, if that is then known
abbrev pub steps_at : Accepted → ℕ → Option ℕ → List EventBody
steps_at (Created id _ kind) offset length = (Create, offset, length) ∷ finish_at offset length
steps_at (Appended id count) offset length = (Receive, offset, length) ∷ finish_at offset length
steps_at (Declared id _ count) offset length = receive_at count offset length ++ finish_at offset length
steps_at (Terminated id) offset length = (Terminate, offset, length) ∷ []

-- the events of a change that follows these
abbrev pub steps_of : List Accepted → Accepted → List EventBody
steps_of before c =
    let through = before ++ c ∷ [] in
    steps_at c (offset_of through (id_of c)) (length_of through (id_of c))

-- the events of an upload: those of each of its changes, in order
unfoldable pub events_of : List Accepted → ℕ → List EventBody
events_of changes u = gather (λ before c. if id_of c == u then steps_of before c else []) [] changes
