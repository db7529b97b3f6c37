-- What the steps of the checks return.
use Rattle.std.specs.Borrow.{Bor}
use Rattle.std.specs.Prelude.{◌≡◌, ℕ, ◌⊎◌, true, false, List, Option, Some, None, option_copied, Result, Ok, Err, ⊤}
use Rattle.std.specs.Result.{is_err}
use Rattle.up_message.specs.Fields.{Field}
use Rattle.up_headers.specs.declared.request.Request.{Request}
use Rattle.up_headers.specs.declared.header_fault.HeaderFault.{HeaderFault}
use Rattle.up_headers.specs.declared.header_fault.HeaderFault.TheVariants as fault
use Rattle.up_headers.specs.declared.verb.Verb.{Verb}
use Rattle.up_headers.specs.declared.verb.Verb.TheVariants as method
use Rattle.up_headers.specs.declared.place.Place.{Place}
use Rattle.up_headers.specs.declared.place.Place.TheVariants.{Creation, Upload, Nowhere}
use Rattle.up_headers.specs.declared.patch.PatchFields.{PatchFields}
use Rattle.up_headers.specs.declared.creation.Texts.{Texts}
use Rattle.up_headers.specs.Rows.{first_that_holds}
use Rattle.up_headers.specs.Places.{IsAt}
use Rattle.up_headers.specs.Verbs.{chosen_verb}
use Rattle.up_headers.specs.Fields.{is_repeated, value_in}
use Rattle.up_headers.specs.Patches.{patch_fields_of}
use Rattle.up_headers.specs.Metadata.{Pair}
use Rattle.up_headers.specs.Reading.{reading}
use Rattle.up_headers.specs.Creations.{concat_in, deferred_text, length_rows, length_value, metadata_in, new_length, IsAtMost}
use Rattle.up_headers.specs.Table.{early_rows, repeats, IsAnswerAt}

-- the value of the only field with this name, if there is one; the fault if there are several
abbrev pub IsOnce : List ℕ → List Field → Result (Option (Bor (List ℕ))) HeaderFault → Type 0
IsOnce name fields (Ok value) = (is_repeated name fields ≡ false) × (option_copied value ≡ value_in name fields)
IsOnce name fields (Err found) = (is_repeated name fields ≡ true) × (found ≡ fault.Repeated)

-- what the fields of a PATCH say; the fault if one of them is there several times
abbrev pub IsPatchRead : List Field → Result PatchFields HeaderFault → Type 0
IsPatchRead fields (Ok read) = (repeats method.Patch fields ≡ false) × (read ≡ patch_fields_of fields)
IsPatchRead fields (Err found) = (repeats method.Patch fields ≡ true) × (found ≡ fault.Repeated)

-- the texts of the fields that a creation reads
pub record HasTexts (fields : List Field) (texts : Texts) : Type 0 where
  pub length : option_copied texts.length ≡ length_value fields
  pub deferred : option_copied texts.deferred ≡ deferred_text fields
  pub metadata : texts.metadata.now ≡ metadata_in fields
  pub concat : texts.concat.now ≡ concat_in fields

-- the same; the fault if one of the fields is there several times
abbrev pub AreTexts : List Field → Result Texts HeaderFault → Type 0
AreTexts fields (Ok texts) = (repeats method.Post fields ≡ false) × HasTexts fields texts
AreTexts fields (Err found) = (repeats method.Post fields ≡ true) × (found ≡ fault.Repeated)

-- the pairs of a metadata text; the fault if it has one; or memory ran out
abbrev pub IsRead : List ℕ → Result (List Pair) HeaderFault → Type 0
IsRead text (Ok pairs) = reading text ≡ Ok pairs
IsRead text (Err fault.BadMetadata) = is_err (reading text) ≡ true
IsRead text (Err found) = found ≡ fault.NoMemory

-- a check that fails returns this fault, and one that succeeds has none
abbrev pub IsFirstFault : Result ⊤ HeaderFault → Option HeaderFault → Type 0
IsFirstFault (Ok done) first = first ≡ None
IsFirstFault (Err found) first = first ≡ Some found

-- the method that counts, if no check before the target fails
abbrev pub IsChosen : List ℕ → List Field → Result Verb HeaderFault → Type 0
IsChosen name fields (Ok verb) = (first_that_holds (early_rows name fields) ≡ None) × (verb ≡ chosen_verb name fields)
IsChosen name fields (Err found) = first_that_holds (early_rows name fields) ≡ Some found

-- the length of a new upload, if none of its checks fails
abbrev pub IsLength : List ℕ → Option (List ℕ) → Option (List ℕ) → ℕ → Result (Option ℕ) HeaderFault → Type 0
IsLength concat length deferred max_size (Ok known) =
    (first_that_holds (length_rows concat length deferred max_size) ≡ None) × (known ≡ new_length concat length) × IsAtMost max_size known
IsLength concat length deferred max_size (Err found) = first_that_holds (length_rows concat length deferred max_size) ≡ Some found

-- the upload that a target refers to, or none for the creation URL; the fault of any other target; or memory ran out
abbrev pub IsFound : List ℕ → Result (Option ℕ) HeaderFault → Type 0
IsFound target (Ok None) = IsAt target Creation
IsFound target (Ok (Some id)) = IsAt target (Upload id)
IsFound target (Err found) = (found ≡ fault.NoMemory) ⊎ ((found ≡ fault.NoSuchPath) × IsAt target Nowhere)

-- the result of the checks at a place; or memory ran out
abbrev pub IsStep : Verb → Place → List Field → List ℕ → ℕ → Result Request HeaderFault → Type 0
IsStep verb at fields body max_size result = (result ≡ Err fault.NoMemory) ⊎ IsAnswerAt verb at fields body max_size result
