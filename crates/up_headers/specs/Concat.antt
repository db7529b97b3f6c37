-- The text of `Upload-Concat`, and what it says about an upload to be created (tus 1.0.0, Upload-Concat).
use Rattle.std.specs.Prelude.{◌≡◌, ℕ, ◌<◌, ◌^◌, Bool, List, [], ◌∷◌, ◌++◌, codes, length, nat_eq, Option, Some, None}
use Rattle.std.specs.List.{starts_with}
use Rattle.up_events.specs.declared.event.Kind.{Kind}
use Rattle.up_events.specs.declared.event.Kind.TheVariants.{Plain, Partial, Final}
use Rattle.up_headers.specs.declared.place.Place.TheVariants.{Upload}
use Rattle.up_headers.specs.Words.{AreSpaces, BeginsWith}
use Rattle.up_headers.specs.Places.{IsAt}

-- the text is these URLs, in order, with spaces between them and optionally around them
abbrev pub ListsUrls : List ℕ → List (List ℕ) → Type 0
ListsUrls text [] = AreSpaces text
ListsUrls text (url ∷ urls) = (rest : List ℕ) × BeginsWith text url rest × ListsUrls rest urls

-- each URL is that of the upload, in order
abbrev pub NameUploads : List (List ℕ) → List ℕ → Type 0
NameUploads [] [] = Unit {0}
NameUploads (url ∷ urls) (id ∷ ids) = IsAt url (Upload id) × NameUploads urls ids
NameUploads [] (id ∷ ids) = ⊥
NameUploads (url ∷ urls) [] = ⊥

-- the list has the URLs of these uploads, in order, and of at least one
abbrev pub ReadsParts : List ℕ → List ℕ → Type 0
ReadsParts list ids = (urls : List (List ℕ)) × ListsUrls list urls × NameUploads urls ids × (0 < length ids)

-- the parts that the list contains; none if it is not a list of parts
abbrev pub IsPartList : List ℕ → Option (List ℕ) → Type 0
IsPartList list (Some ids) = ReadsParts list ids
IsPartList list None = (ids : List ℕ) → ¬ (ReadsParts list ids)

-- the kind of an upload, and the parts that it joins
abbrev pub Concat : Type 0
Concat = Kind × List ℕ

-- the text means this kind and these parts; an empty text means the same as no text
abbrev pub ReadsConcat : List ℕ → Kind → List ℕ → Type 0
ReadsConcat text Plain parts = (text ≡ []) × (parts ≡ [])
ReadsConcat text Partial parts = (text ≡ codes "partial") × (parts ≡ [])
ReadsConcat text Final parts = (list : List ℕ) × (text ≡ codes "final;" ++ list) × ReadsParts list parts

-- what the text means; none if it means nothing
abbrev pub IsConcat : List ℕ → Option Concat → Type 0
IsConcat text (Some said) = ReadsConcat text said.0 said.1
IsConcat text None = (kind : Kind) (parts : List ℕ) → ¬ (ReadsConcat text kind parts)

-- each is the number of an id
abbrev pub AreIds : List ℕ → Type 0
AreIds [] = Unit {0}
AreIds (id ∷ ids) = (id < 2 ^ 128) × AreIds ids

-- a text means at most one thing
abbrev pub ConcatReadsOnce : Type 0
ConcatReadsOnce =
    (text : List ℕ) (kind : Kind) (parts : List ℕ) (other : Kind) (others : List ℕ) → AreIds parts → AreIds others
    → ReadsConcat text kind parts → ReadsConcat text other others → (kind ≡ other) × (parts ≡ others)

-- whether the text is that of a final upload, whatever its list
abbrev pub is_final_text : List ℕ → Bool
is_final_text text = starts_with nat_eq text (codes "final;")
