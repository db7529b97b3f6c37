-- What an upload is, however it is stored, and how a PATCH changes it.
use Rattle.std.specs.Prelude.{◌≡◌, ◌++◌, ◌+◌, ◌≤◌, ℕ, Bool, true, false, List, Option, Some, None, Result, Ok, Err, length, refl, if◌then◌else◌}
use Rattle.std.specs.Option.{option_or}
use Rattle.std.specs.Coded.{Coded, code_by, coded×, coded_ℕ, coded_list, coded_option, coded_bool}
use Rattle.up_events.specs.declared.event.Kind.{Kind}
use Rattle.up_events.specs.declared.event.Kind.TheVariants.{Plain, Partial, Final}
use Rattle.up_events.specs.History.{is_final_kind, is_whole, max_length_of}
use Rattle.up_headers.specs.declared.request.NewUpload.{NewUpload}
use Rattle.up_headers.specs.declared.request.NotDigits.{NotDigits}
use Rattle.up_headers.specs.declared.request.Patch.{Patch}

-- the kind, the length if it is known, the bytes, and the texts that the client sent
pub record Content : Type 0 where
  pub kind : Kind
  pub length : Option ℕ
  pub bytes : List ℕ
  pub metadata : Option (List ℕ)
  pub pairs : List (List ℕ × List ℕ)
  pub concat : Option (List ℕ)

-- a new upload with these first bytes, which are all the bytes of a final one
abbrev pub made_of : NewUpload → List ℕ → Content
made_of new bytes =
    record { kind = new.kind; length = if is_final_kind new.kind then Some (length bytes) else new.length; bytes = bytes; metadata = new.metadata; pairs = new.pairs; concat = new.concat }

-- whether all bytes of the upload have arrived
abbrev pub is_complete : Content → Bool
is_complete x = is_whole (length x.bytes) x.length

-- the upload with this length, and more bytes at the end
abbrev pub with_more : Content → Option ℕ → List ℕ → Content
with_more x size more = record x { length = size; bytes = x.bytes ++ more }

-- no more bytes than the length allows
abbrev pub IsWithinLength : Content → Type 0
IsWithinLength x = length x.bytes ≤ max_length_of x.length

-- the upload is not complete, and with `count` more bytes it is within this length
abbrev pub CanTake : Option ℕ → ℕ → Content → Type 0
CanTake size count x = (is_complete x ≡ false) × (length x.bytes + count ≤ max_length_of size)

-- ---- PATCH

-- the length that is declared: a number, while no length is known
abbrev pub declared : Option (Result ℕ NotDigits) → Option ℕ → Option ℕ
declared (Some (Ok size)) None = Some size
declared (Some (Ok size)) (Some known) = None
declared (Some (Err fault)) known = None
declared None known = None

-- the length after a PATCH: the upload's own, or the one that is declared
abbrev pub size_after : Patch → Content → Option ℕ
size_after p x = option_or x.length (declared p.length x.length)

-- the upload after a PATCH
abbrev pub patched : Patch → Content → Content
patched p x = with_more x (size_after p x) p.bytes

-- ---- the codes with which a proof compares values

pub kind_to : Kind → Option Bool
kind_to Plain = None
kind_to Partial = Some false
kind_to Final = Some true

pub kind_from : Option Bool → Kind
kind_from None = Plain
kind_from (Some false) = Partial
kind_from (Some true) = Final

pub kind_back : (kind : Kind) → kind_from (kind_to kind) ≡ kind
unfolding kind_to kind_from
kind_back Plain = refl
kind_back Partial = refl
kind_back Final = refl

abbrev pub kind_code : Coded Kind
kind_code = code_by (Option Bool) (coded_option coded_bool) kind_to kind_from kind_back

abbrev pub text_code : Coded (List ℕ)
text_code = coded_list coded_ℕ

abbrev pub content_code : Coded Content
content_code =
    code_by (Kind × (Option ℕ × (List ℕ × (Option (List ℕ) × (List (List ℕ × List ℕ) × Option (List ℕ))))))
    (coded× kind_code (coded× (coded_option coded_ℕ) (coded× text_code (coded× (coded_option text_code) (coded× (coded_list (coded× text_code text_code)) (coded_option text_code))))))
    (λ c. (c.kind, (c.length, (c.bytes, (c.metadata, (c.pairs, c.concat))))))
    (λ p. record { kind = p.0; length = p.1.0; bytes = p.1.1.0; metadata = p.1.1.1.0; pairs = p.1.1.1.1.0; concat = p.1.1.1.1.1 })
    (λ _. refl)
