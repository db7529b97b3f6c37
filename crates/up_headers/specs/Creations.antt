-- An upload to be created (tus 1.0.0, Creation).
use Rattle.std.specs.Prelude.{◌≡◌, ◌≤◌, ℕ, Bool, false, not, List, [], ◌∷◌, bytes_eq, codes, nat_lt, Option, Some, None, is_none, option_map, Result, Ok, Err, if◌then◌else◌}
use Rattle.std.specs.Result.{is_err}
use Rattle.std.specs.Str.Parse.{digits_value}
use Rattle.up_message.specs.Digits.{is_digits}
use Rattle.up_message.specs.Fields.{Field}
use Rattle.up_headers.specs.declared.request.NewUpload.{NewUpload}
use Rattle.up_headers.specs.declared.request.Request.{Request}
use Rattle.up_headers.specs.declared.request.Request.TheVariants.{Create}
use Rattle.up_headers.specs.declared.header_fault.HeaderFault.{HeaderFault}
use Rattle.up_headers.specs.declared.header_fault.HeaderFault.TheVariants.{BadLength, TooLong, BadConcat, BadMetadata}
use Rattle.up_headers.specs.declared.metadata_fault.MetadataFault.{MetadataFault}
use Rattle.up_headers.specs.Metadata.{Pair}
use Rattle.up_headers.specs.Reading.{reading}
use Rattle.up_headers.specs.Rows.{Row, first_that_holds, Then}
use Rattle.up_headers.specs.Fields.{value_in, text_in}
use Rattle.up_headers.specs.Concat.{Concat, IsConcat, is_final_text}

-- the text of the length
abbrev pub length_value : List Field → Option (List ℕ)
length_value fields = value_in (codes "upload-length") fields

-- the text that says that the length will be declared later
abbrev pub deferred_text : List Field → Option (List ℕ)
deferred_text fields = value_in (codes "upload-defer-length") fields

-- whether the length is a number or will be declared later, and not both
abbrev pub has_length : Option (List ℕ) → Option (List ℕ) → Bool
has_length (Some length) None = is_digits length
has_length None (Some deferred) = bytes_eq deferred (codes "1")
has_length length deferred = false

-- the length, a number of any size; none if it will be declared later
abbrev pub sent_length : Option (List ℕ) → Option ℕ
sent_length length = option_map (digits_value 10) length

-- whether the length is known and exceeds this
abbrev pub is_above : ℕ → Option ℕ → Bool
is_above most None = false
is_above most (Some length) = nat_lt most length

-- a length that is known is at most this
abbrev pub IsAtMost : ℕ → Option ℕ → Type 0
IsAtMost most None = Unit {0}
IsAtMost most (Some length) = length ≤ most

-- the text of the metadata
abbrev pub metadata_in : List Field → List ℕ
metadata_in fields = text_in (codes "upload-metadata") fields

-- the text that says whether the upload is a part, or joins parts
abbrev pub concat_in : List Field → List ℕ
concat_in fields = text_in (codes "upload-concat") fields

-- the checks of the length, in order; a final upload has the length of its parts, and needs none
abbrev pub length_rows : List ℕ → Option (List ℕ) → Option (List ℕ) → ℕ → List (Row HeaderFault)
length_rows concat length deferred max_size =
    if is_final_text concat then []
    else (not (has_length length deferred), BadLength) ∷ (is_above max_size (sent_length length), TooLong) ∷ []

-- the checks after them, in order; `said` is what the text of the concatenation means
abbrev pub said_rows : List Field → Option Concat → List (Row HeaderFault)
said_rows fields said = (is_none said, BadConcat) ∷ (is_err (reading (metadata_in fields)), BadMetadata) ∷ []

-- the text, if it is not empty
abbrev pub some_text : List ℕ → Option (List ℕ)
some_text [] = None
some_text (b ∷ bs) = Some (b ∷ bs)

-- the pairs that were read; none if there was a fault
abbrev pub pairs_or_none : Result (List Pair) MetadataFault → List Pair
pairs_or_none (Ok pairs) = pairs
pairs_or_none (Err fault) = []

-- the length that was sent, if there was one; 0 for a final upload
abbrev pub new_length : List ℕ → Option (List ℕ) → Option ℕ
new_length concat length = if is_final_text concat then Some 0 else sent_length length

-- the upload, if no check fails
abbrev pub new_upload_of : List Field → Concat → NewUpload
new_upload_of fields said = record {
  kind = said.0;
  length = new_length (concat_in fields) (length_value fields);
  parts = said.1;
  pairs = pairs_or_none (reading (metadata_in fields));
  metadata = some_text (metadata_in fields);
  concat = some_text (concat_in fields);
}

-- the result has the upload; `said` is what the text of the concatenation means
abbrev pub Makes : List Field → Option Concat → Result Request HeaderFault → Type 0
Makes fields None result = ⊥
Makes fields (Some said) result = result ≡ Ok (Create (new_upload_of fields said))

-- the result if no check of the length has failed
abbrev pub CreatesSaid : List Field → Result Request HeaderFault → Type 0
CreatesSaid fields result =
    (said : Option Concat) × IsConcat (concat_in fields) said
    × Then (first_that_holds (said_rows fields said)) result (Makes fields said result)

-- the result of the checks of a creation, in order
abbrev pub Creates : List Field → ℕ → Result Request HeaderFault → Type 0
Creates fields max_size result =
    Then (first_that_holds (length_rows (concat_in fields) (length_value fields) (deferred_text fields) max_size)) result
    (CreatesSaid fields result)
