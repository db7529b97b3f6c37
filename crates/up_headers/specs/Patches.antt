-- The PATCH of an upload (tus 1.0.0, PATCH).
use Rattle.std.specs.Prelude.{ℕ, ◌-◌, ◌^◌, ◌==◌, Bool, List, codes, Option, Some, None, option_map, ok_or, Result, if◌then◌else◌, min}
use Rattle.std.specs.List.{before_first}
use Rattle.std.specs.Str.Parse.{digits_value}
use Rattle.httparse.specs.Ascii.{semicolon}
use Rattle.up_message.specs.Digits.{is_digits}
use Rattle.up_message.specs.Fields.{Field, same_name, trim_end_ows}
use Rattle.up_headers.specs.declared.request.Patch.{Patch}
use Rattle.up_headers.specs.declared.request.NotDigits.{NotDigits}
use Rattle.up_headers.specs.declared.patch.PatchFields.{PatchFields}
use Rattle.up_headers.specs.Fields.{value_in, text_in}

-- a content type without its parameters
abbrev pub before_semicolon : List ℕ → List ℕ
before_semicolon text = before_first (λ b. b == semicolon) text

-- whether a content type, whatever its parameters, is that of a PATCH
abbrev pub is_media : List ℕ → Bool
is_media text = same_name (trim_end_ows (before_semicolon text)) (codes "application/offset+octet-stream")

-- the number that the digits spell, at most 2^64 - 1
abbrev pub number_of : List ℕ → Option ℕ
number_of text = if is_digits text then Some (min (digits_value 10 text) (2 ^ 64 - 1)) else None

-- the length that is declared, if the text is there
abbrev pub declared_by : Option (List ℕ) → Option (Result ℕ NotDigits)
declared_by text = option_map (λ digits. ok_or (number_of digits) (record {})) text

-- what the fields of a PATCH say
abbrev pub patch_fields_of : List Field → PatchFields
patch_fields_of fields = record {
  media = is_media (text_in (codes "content-type") fields);
  offset = number_of (text_in (codes "upload-offset") fields);
  length = declared_by (value_in (codes "upload-length") fields);
}

-- the PATCH of an upload, from the fields and the body of a message
abbrev pub patch_of : ℕ → List Field → List ℕ → Patch
patch_of id fields body = record {
  id = id;
  media = is_media (text_in (codes "content-type") fields);
  offset = number_of (text_in (codes "upload-offset") fields);
  length = declared_by (value_in (codes "upload-length") fields);
  bytes = body;
}
