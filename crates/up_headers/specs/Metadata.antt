-- The text of `Upload-Metadata`, and the pairs in it (tus 1.0.0, Upload-Metadata).
use Rattle.std.specs.Prelude.{◌≡◌, ℕ, ◌<◌, ◌==◌, Bool, true, false, not, List, [], ◌∷◌, ◌++◌, length, bytes_eq, IsTrue}
use Rattle.std.specs.List.{list_all, list_any}
use Rattle.httparse.specs.Ascii.{comma}
use Rattle.base64.specs.Engines.{standard}
use Rattle.base64.specs.GeneralPurpose.{encode_of, IsBytes}
use Rattle.up_headers.specs.declared.metadata_fault.MetadataFault.{MetadataFault}
use Rattle.up_headers.specs.declared.metadata_fault.MetadataFault.TheVariants as Fault
use Rattle.up_headers.specs.Words.{AreSpaces, IsWord, BeginsWith}

-- a key and a value
abbrev pub Pair : Type 0
Pair = List ℕ × List ℕ

-- any byte but a comma
abbrev pub is_no_comma : ℕ → Bool
is_no_comma b = not (b == comma)

-- a text that can be between two commas
abbrev pub HasNoComma : List ℕ → Type 0
HasNoComma text = IsTrue (list_all is_no_comma text)

-- no part has a comma
abbrev pub HaveNoCommas : List (List ℕ) → Type 0
HaveNoCommas [] = Unit {0}
HaveNoCommas (part ∷ parts) = HasNoComma part × HaveNoCommas parts

-- the parts, joined by commas
abbrev pub with_commas : List (List ℕ) → List ℕ
with_commas [] = []
with_commas (part ∷ []) = part
with_commas (part ∷ next ∷ parts) = part ++ comma ∷ with_commas (next ∷ parts)

-- the text, split at its commas; the empty text may also be split into no parts
abbrev pub AreParts : List ℕ → List (List ℕ) → Type 0
AreParts text parts = (text ≡ with_commas parts) × HaveNoCommas parts

-- spaces, the key, optionally one or more spaces and the encoded value, spaces; an empty value has the empty encoding
pub record IsPart (part : List ℕ) (pair : Pair) : Type 0 where
  pub left : List ℕ
  pub gap : List ℕ
  pub right : List ℕ
  pub spelled : part ≡ left ++ (pair.0 ++ (gap ++ (encode_of standard pair.1 ++ right)))
  pub spaces : AreSpaces left × AreSpaces gap × AreSpaces right
  pub is_key : IsWord pair.0
  pub is_value : IsBytes pair.1
  pub apart : 0 < length pair.1 → 0 < length gap

-- one of the pairs has this key, byte for byte
abbrev pub has_key : List ℕ → List Pair → Bool
has_key key pairs = list_any (λ (pair : Pair). bytes_eq pair.0 key) pairs

-- after the pairs `before`, each part is one pair, with a key that no pair before it has
abbrev pub ArePairs : List Pair → List (List ℕ) → List Pair → Type 0
ArePairs before [] [] = Unit {0}
ArePairs before (part ∷ parts) (pair ∷ pairs) = IsPart part pair × (has_key pair.0 before ≡ false) × ArePairs (before ++ pair ∷ []) parts pairs
ArePairs before [] (pair ∷ pairs) = ⊥
ArePairs before (part ∷ parts) [] = ⊥

-- the text is read as these pairs; the empty text as no pairs, since an empty part is no pair
abbrev pub ReadsPairs : List ℕ → List Pair → Type 0
ReadsPairs text pairs = (parts : List (List ℕ)) × AreParts text parts × ArePairs [] parts pairs

-- after spaces, the part begins with the key, which is everything up to the next space
abbrev pub HasKey : List ℕ → List ℕ → Type 0
HasKey part key = (rest : List ℕ) × BeginsWith part key rest

-- the fault of a part after the pairs `before`: it has no key, or the key of a pair before it, or a new key and is no
-- pair
abbrev pub IsPartFault : List Pair → List ℕ → MetadataFault → Type 0
IsPartFault before part Fault.EmptyKey = AreSpaces part
IsPartFault before part Fault.KeyTwice = (key : List ℕ) × HasKey part key × (has_key key before ≡ true)
IsPartFault before part Fault.BadValue = (key : List ℕ) × HasKey part key × (has_key key before ≡ false) × ((pair : Pair) → ¬ (IsPart part pair))
IsPartFault before part Fault.NoMemory = ⊥

-- some parts of the text are pairs, and the part after them has the fault
pub record HasFault (text : List ℕ) (fault : MetadataFault) : Type 0 where
  pub before : List (List ℕ)
  pub part : List ℕ
  pub behind : List (List ℕ)
  pub are_parts : AreParts text (before ++ part ∷ behind)
  pub pairs : List Pair
  pub are_pairs : ArePairs [] before pairs
  pub is_fault : IsPartFault pairs part fault

-- the text has the fault and is read as no list of pairs; running out of memory says nothing about the text
abbrev pub IsRefusal : List ℕ → MetadataFault → Type 0
IsRefusal text Fault.NoMemory = Unit {0}
IsRefusal text fault = HasFault text fault × ((pairs : List Pair) → ¬ (ReadsPairs text pairs))

-- a text is read as at most one list of pairs
abbrev pub ReadsOnce : Type 0
ReadsOnce = (text : List ℕ) (one other : List Pair) → ReadsPairs text one → ReadsPairs text other → one ≡ other

-- a text of bytes has at most one fault
abbrev pub FaultsOnce : Type 0
FaultsOnce = (text : List ℕ) (one other : MetadataFault) → IsBytes text → HasFault text one → HasFault text other → one ≡ other
