-- The encoding of an entry, and of a batch of entries. Each has only one encoding.
use Rattle.std.specs.Prelude.{ℕ, Bool, true, false, ◌%◌, ◌/◌, ◌^◌, List, [], ◌∷◌, ◌++◌, length, Option, Some, None, Result, Ok, Err}
use Rattle.std.specs.List.{flat_map}
use Rattle.up_events.specs.declared.event.Kind.{Kind}
use Rattle.up_events.specs.declared.event.Kind.TheVariants.{Plain, Partial, Final}
use Rattle.up_headers.specs.declared.request.NewUpload.{NewUpload}
use Rattle.up_headers.specs.declared.request.NotDigits.{NotDigits}
use Rattle.up_headers.specs.declared.request.Patch.{Patch}
use Rattle.up_headers.specs.declared.request.Request.{Request}
use Rattle.up_headers.specs.declared.request.Request.TheVariants as request
use Rattle.up_log.specs.declared.entry.Consent.{Consent}
use Rattle.up_log.specs.declared.entry.Consent.TheVariants.{Skipped, Allowed, AllowedFinish}
use Rattle.up_log.specs.declared.entry.Entry.{Entry}
use Rattle.up_places.specs.declared.position.Position.{Position}

-- the first of these entries; of none it is one that asks for nothing
abbrev pub first_entry : List Entry → Entry
first_entry [] = record { id = 0; consent = Skipped; place = None; request = request.Options }
first_entry (x ∷ entries) = x

-- a number in eight cells, the lowest first. Below 2^64 each cell is a byte; the last cell takes everything above, so
-- that no two numbers have the same encoding
unfoldable pub word : ℕ → List ℕ
word n =
    let a = n / 256 in
    let b = a / 256 in
    let c = b / 256 in
    let d = c / 256 in
    let e = d / 256 in
    let f = e / 256 in
    let g = f / 256 in
    n % 256 ∷ a % 256 ∷ b % 256 ∷ c % 256 ∷ d % 256 ∷ e % 256 ∷ f % 256 ∷ g ∷ []

-- an id in two words, the lower first
abbrev pub id : ℕ → List ℕ
id n = word (n % 2 ^ 64) ++ word (n / 2 ^ 64)

-- the number of bytes, and the bytes
abbrev pub text : List ℕ → List ℕ
text bytes = word (length bytes) ++ bytes

-- whether there is a field, and the field
abbrev pub maybe : {X : Type 0} → (X → List ℕ) → Option X → List ℕ
maybe field None = 0 ∷ []
maybe field (Some x) = 1 ∷ field x

-- the number of fields, and the fields
abbrev pub many : {X : Type 0} → (X → List ℕ) → List X → List ℕ
many field xs = word (length xs) ++ flat_map field xs

abbrev pub flag : Bool → List ℕ
flag false = 0 ∷ []
flag true = 1 ∷ []

abbrev pub kind : Kind → List ℕ
kind Plain = 0 ∷ []
kind Partial = 1 ∷ []
kind Final = 2 ∷ []

abbrev pub consent : Consent → List ℕ
consent Skipped = 0 ∷ []
consent Allowed = 1 ∷ []
consent AllowedFinish = 2 ∷ []

-- a length that is declared, if one was sent
abbrev pub declared_length : Option (Result ℕ NotDigits) → List ℕ
declared_length None = 0 ∷ []
declared_length (Some (Ok n)) = 1 ∷ word n
declared_length (Some (Err fault)) = 2 ∷ []

-- a key and its value
abbrev pub pair : List ℕ × List ℕ → List ℕ
pair p = text p.0 ++ text p.1

abbrev pub new_upload : NewUpload → List ℕ
new_upload new =
    kind new.kind ++ maybe word new.length ++ many id new.parts ++ many pair new.pairs ++ maybe text new.metadata ++ maybe text new.concat

-- where bytes in data files begin
abbrev pub position : Position → List ℕ
position p = word p.file ++ word p.at

-- bytes, or where they begin in data files and how many they are
abbrev pub placed : Option Position → List ℕ → List ℕ
placed None bytes = text bytes
placed (Some start) bytes = position start ++ word (length bytes)

abbrev pub patch : Option Position → Patch → List ℕ
patch place p = id p.id ++ flag p.media ++ maybe word p.offset ++ declared_length p.length ++ placed place p.bytes

-- the kind of a PATCH whose bytes are in the entry, or in data files
abbrev pub patch_kind : Option Position → ℕ
patch_kind None = 3
patch_kind (Some start) = 6

-- a request; of a PATCH the bytes are at this place, if there is one
abbrev pub asked_for : Option Position → Request → List ℕ
asked_for place request.Options = 0 ∷ []
asked_for place (request.Create new) = 1 ∷ new_upload new
asked_for place (request.Head u) = 2 ∷ id u
asked_for place (request.Patch p) = patch_kind place ∷ patch place p
asked_for place (request.Delete u) = 4 ∷ id u
asked_for place (request.Get u) = 5 ∷ id u

abbrev pub entry : Entry → List ℕ
entry e = id e.id ++ consent e.consent ++ asked_for e.place e.request

-- a batch of entries
abbrev pub batch : List Entry → List ℕ
batch entries = many entry entries
