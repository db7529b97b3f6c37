-- The responses.
use Rattle.std.specs.Prelude.{ℕ, ◌++◌, List, [], ◌∷◌, Option, Some, None, length, codes, decimal}
use Rattle.up_events.specs.IdText.{text_of}
use Rattle.up_machine.specs.Content.{Content}
use Rattle.up_message.specs.Fields.{Field}
use Rattle.up_message.specs.Refused.{answered}
use Rattle.up_message.specs.declared.response.Response.{Response}

-- an upload was created
abbrev pub created : ℕ → Response
created id = answered 201 ((codes "Location", codes "/files/" ++ text_of id) ∷ []) []

-- an upload has reached this offset
abbrev pub reached_offset : ℕ → Response
reached_offset offset = answered 204 ((codes "Upload-Offset", decimal offset) ∷ []) []

-- an upload was removed
abbrev pub removed : Response
removed = answered 204 [] []

-- a field, if there is a text for it
abbrev pub field_of : List ℕ → Option (List ℕ) → List Field
field_of name None = []
field_of name (Some text) = (name, text) ∷ []

-- the length, or that it will be declared later
abbrev pub length_field : Option ℕ → Field
length_field None = (codes "Upload-Defer-Length", codes "1")
length_field (Some n) = (codes "Upload-Length", decimal n)

-- the fields with the state of an upload; none if there is no upload
abbrev pub head_fields : Option Content → List Field
head_fields None = []
head_fields (Some x) =
    ((codes "Upload-Offset", decimal (length x.bytes)) ∷ length_field x.length ∷ [])
    ++ field_of (codes "Upload-Metadata") x.metadata ++ field_of (codes "Upload-Concat") x.concat

-- the state of an upload
abbrev pub head_response : Option Content → Response
head_response found = answered 200 (head_fields found) []

-- the bytes of an upload
abbrev pub downloaded : List ℕ → Response
downloaded bytes = answered 200 ((codes "Content-Type", codes "application/octet-stream") ∷ []) bytes

-- the version of the protocol
abbrev pub version : Field
version = (codes "Tus-Version", codes "1.0.0")

-- what the server supports, with uploads of at most this size
abbrev pub can_do : ℕ → Response
can_do max_size =
    answered 204 (version ∷ (codes "Tus-Extension", codes "creation,creation-defer-length,termination,concatenation") ∷ (codes "Tus-Max-Size", decimal max_size) ∷ []) []
