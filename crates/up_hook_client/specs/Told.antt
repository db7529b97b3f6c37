-- What a hook server is told and asked, in the form of tusd's hooks.
use Rattle.std.specs.Prelude.{◌≡◌, ℕ, Bool, true, false, List, [], ◌∷◌, ◌++◌, ◌&&◌, ◌==◌, not, nat_lt, map, codes, decimal, Option, Some, None, is_none, unwrap_or}
use Rattle.std.specs.Str.Lossy.{utf8_lossy}
use Rattle.serde_json.specs.Data.{Data, null, boolean, number, unsigned, string, array, object, Members, no_members, member, put}
use Rattle.serde_json.specs.View.{items_of}
use Rattle.serde_json.specs.Written.{IsInOrder, compact_text}
use Rattle.up_events.specs.IdText.{text_of}
use Rattle.up_events.specs.Names.{name_of}
use Rattle.up_events.specs.declared.event.Event.{Event}
use Rattle.up_events.specs.declared.event.Kind.{Kind}
use Rattle.up_events.specs.declared.event.Kind.TheVariants.{Plain, Partial, Final}
use Rattle.up_headers.specs.Concat.{Concat, IsConcat}
use Rattle.up_machine.specs.Details.{Details, details_concat, details_kind, details_pairs}
use Rattle.up_machine.specs.declared.ask.Ask.{Ask}
use Rattle.up_machine.specs.declared.ask.Point.{Point}
use Rattle.up_machine.specs.declared.ask.Point.TheVariants.{Create, Finish, Terminate}

-- the name of the hook that is asked at a point
abbrev pub point_name : Point → List ℕ
point_name Create = codes "pre-create"
point_name Finish = codes "pre-finish"
point_name Terminate = codes "pre-terminate"

-- whether an upload is a part, and whether it is joined of parts
abbrev pub is_partial : Kind → Bool
is_partial Plain = false
is_partial Partial = true
is_partial Final = false

abbrev pub is_final : Kind → Bool
is_final Plain = false
is_final Partial = false
is_final Final = true

-- the pairs of metadata, put into an object one after another. What is no UTF-8 is replaced
abbrev pub put_pairs : List (List ℕ × List ℕ) → Members → Members
put_pairs [] made = made
put_pairs (pair ∷ pairs) made = put_pairs pairs (put (utf8_lossy pair.0) (string (utf8_lossy pair.1)) made)

abbrev pub metadata : List (List ℕ × List ℕ) → Data
metadata pairs = object (put_pairs pairs no_members)

-- the ids of uploads
abbrev pub id_string : ℕ → Data
id_string id = string (text_of id)

abbrev pub id_strings : List ℕ → Data
id_strings ids = array (items_of (map id_string ids))

-- the parts of an upload: none unless it is joined of parts
abbrev pub parts_in : Option Concat → Data
parts_in None = null
parts_in (Some (Plain, parts)) = null
parts_in (Some (Partial, parts)) = null
parts_in (Some (Final, parts)) = id_strings parts

-- these are the parts that a text of `Upload-Concat` names, if there is one
abbrev pub AreParts : Option (List ℕ) → Data → Type 0
AreParts text parts = (said : Option Concat) × IsConcat (unwrap_or text []) said × (parts ≡ parts_in said)

-- an upload, with the text of its id; a length that isn't known counts as 0
abbrev pub upload_data : List ℕ → Kind → Data → Data → ℕ → Option ℕ → Data
upload_data id kind pairs parts offset length =
    object
    (member (codes "ID") (string id)
    (member (codes "IsFinal") (boolean (is_final kind))
    (member (codes "IsPartial") (boolean (is_partial kind))
    (member (codes "MetaData") pairs
    (member (codes "Offset") (number (unsigned offset))
    (member (codes "PartialUploads") parts
    (member (codes "Size") (number (unsigned (unwrap_or length 0)))
    (member (codes "SizeIsDeferred") (boolean (is_none length))
    (member (codes "Storage") null no_members)))))))))

-- whether a byte stands in a string of JSON as it is
abbrev pub is_plain : ℕ → Bool
is_plain byte = not (nat_lt byte 32) && (not (byte == 34) && not (byte == 92))

-- an object of one member, whose key and value stand there as they are
abbrev pub pair_text : List ℕ → List ℕ → List ℕ
pair_text key value = codes "{\"" ++ (key ++ (codes "\":\"" ++ (value ++ codes "\"}")))

-- the text of an upload up to that of its metadata
abbrev pub upload_begin : List ℕ → Kind → List ℕ
upload_begin id kind =
    codes "{\"ID\":\"" ++ (id ++ (codes "\",\"IsFinal\":" ++ (compact_text (boolean (is_final kind))
    ++ (codes ",\"IsPartial\":" ++ (compact_text (boolean (is_partial kind)) ++ codes ",\"MetaData\":")))))

-- what ends it: its length, and where it is stored, which isn't told
abbrev pub length_text : Option ℕ → List ℕ
length_text length =
    codes ",\"Size\":" ++ (decimal (unwrap_or length 0)
    ++ (codes ",\"SizeIsDeferred\":" ++ (compact_text (boolean (is_none length)) ++ codes ",\"Storage\":null}")))

-- the rest of it, from that of its metadata
abbrev pub upload_end : Data → ℕ → Data → Option ℕ → List ℕ
upload_end pairs offset parts length =
    compact_text pairs ++ (codes ",\"Offset\":" ++ (decimal offset
    ++ (codes ",\"PartialUploads\":" ++ (compact_text parts ++ length_text length))))

-- the upload of an event, which was created with these details, of these parts
abbrev pub event_upload : Event → Details → Data → Data
event_upload event details parts =
    upload_data (text_of event.id) (details_kind details) (metadata (details_pairs details)) parts event.offset event.length

-- the text that tells of an event up to that of its upload, and what ends it
abbrev pub event_begin : Event → List ℕ
event_begin event = codes "{\"Event\":{\"HTTPRequest\":null,\"Number\":" ++ (decimal event.number ++ codes ",\"Upload\":")

abbrev pub hook_end : List ℕ → List ℕ
hook_end hook = codes "},\"Type\":\"" ++ (hook ++ codes "\"}")

-- the text that tells of an event, with that of its upload
abbrev pub event_line : Event → List ℕ → List ℕ
event_line event upload = event_begin event ++ (upload ++ hook_end (name_of event.hook))

-- the bytes tell of the event, and of what its upload was created with: JSON without spaces, with the names of each
-- object in order
abbrev pub TellsOf : Event → Details → List ℕ → Type 0
TellsOf event details bytes =
    (parts : Data) × AreParts (details_concat details) parts
    × (bytes ≡ event_line event (compact_text (event_upload event details parts)))

-- the text of an id; empty if there is none
abbrev pub id_text : Option ℕ → List ℕ
id_text None = []
id_text (Some id) = text_of id

-- the upload that a closure is asked about
abbrev pub ask_upload : Ask → Option ℕ → Data → Data
ask_upload ask id parts = upload_data (id_text id) ask.kind (metadata ask.pairs) parts ask.offset ask.length

-- the text that asks about a request up to that of its upload, with what is told of the request
abbrev pub ask_begin : List ℕ → List ℕ
ask_begin request = codes "{\"Event\":{\"HTTPRequest\":" ++ (request ++ codes ",\"Upload\":")

-- the text that asks at a point, with those of what is told of the request, and of the upload
abbrev pub ask_line : Point → List ℕ → List ℕ → List ℕ
ask_line point request upload = ask_begin request ++ (upload ++ hook_end (point_name point))

-- the bytes ask about an upload with this id, in such JSON
abbrev pub AsksAbout : Ask → Option ℕ → List ℕ → Type 0
AsksAbout ask id bytes =
    (parts : Data) × (request : Data) × (told : List ℕ) × AreParts ask.concat parts × IsInOrder told request
    × (bytes ≡ ask_line ask.point told (compact_text (ask_upload ask id parts)))
