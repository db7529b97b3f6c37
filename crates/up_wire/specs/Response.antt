-- The bytes of a response (RFC 9112, sections 4 to 6).
use Rattle.std.specs.Prelude.{ℕ, Bool, ◌&&◌, ◌||◌, List, [], ◌∷◌, ◌++◌, length, flat_map, Option, Result, Ok, Err, if◌then◌else◌, nat_le, nat_lt, ◌==◌, codes, decimal, unwrap_or}
use Rattle.std.specs.Io.KnownBytes.{Appends}
use Rattle.std.specs.List.{concat}
use Rattle.std.specs.Borrow.{Bor}
use Rattle.httparse.specs.Ascii.{crlf_bytes}
use Rattle.http.specs.StatusCode.{reason_phrase}
use Rattle.up_message.specs.declared.response.Response.{Response}
use Rattle.up_message.specs.Fields.{Field}
use Rattle.up_wire.specs.Reading.{IsPrefix}

-- a prefix of the text was written
abbrev pub WritesFront : Option (List ℕ) → Option (List ℕ) → List ℕ → Type 0
WritesFront before after text = (front : List ℕ) × IsPrefix front text × Appends before after front

-- the text was written; after an error, a prefix of it
abbrev pub Writes : {X E : Type 0} → Option (List ℕ) → Option (List ℕ) → List ℕ → Result X E → Type 0
Writes before after text (Ok done) = Appends before after text
Writes before after text (Err fault) = WritesFront before after text

-- the slices, joined
abbrev pub joined_slices : List (Bor (List ℕ)) → List ℕ
joined_slices pieces = flat_map (λ piece. piece.now) pieces

-- the reason phrase of a status, empty if there is none
abbrev pub phrase : ℕ → List ℕ
phrase status = if nat_le 100 status && nat_lt status 1000 then unwrap_or (reason_phrase status) [] else []

-- the status line and the lines that every response has
abbrev pub start_text : ℕ → List ℕ
start_text status =
    concat (codes "HTTP/1.1 " ∷ decimal status ∷ codes " " ∷ phrase status ∷ codes "\r\nTus-Resumable: 1.0.0\r\nCache-Control: no-store\r\n" ∷ [])

-- a field and the end of its line
abbrev pub field_line : Field → List ℕ
field_line field = concat (field.0 ∷ codes ": " ∷ field.1 ∷ crlf_bytes ∷ [])

-- the line with the length of the body; none if there is no body to describe
abbrev pub length_line : Bool → Response → List ℕ
length_line bare r =
    if bare || r.status == 204 then [] else concat (codes "Content-Length: " ∷ decimal (length r.body) ∷ crlf_bytes ∷ [])

-- the line that says that the connection closes
abbrev pub close_line : Bool → List ℕ
close_line close = if close then codes "Connection: close\r\n" else []

-- the body, if one is sent
abbrev pub shown : Bool → List ℕ → List ℕ
shown bare body = if bare then [] else body

-- the closing line, if any, and the empty line
abbrev pub gap_text : Bool → List ℕ
gap_text close = concat (close_line close ∷ crlf_bytes ∷ [])

-- everything before the body
abbrev pub head_text : Response → Bool → Bool → List ℕ
head_text r bare close = start_text r.status ++ (flat_map field_line r.fields ++ (length_line bare r ++ gap_text close))

-- a response as it is written
abbrev pub response_text : Response → Bool → Bool → List ℕ
response_text r bare close = head_text r bare close ++ shown bare r.body
