-- How a metadata text is read, step by step: `ReadsPairs` and `HasFault` as functions.
use Rattle.std.specs.Borrow.{Bor}
use Rattle.std.specs.Prelude.{◌≡◌, ℕ, ◌==◌, Option, None, Some, List, [], ◌∷◌, ◌++◌, length, Result, Ok, Err, MatchResult, if◌then◌else◌}
use Rattle.base64.specs.Engines.{standard}
use Rattle.base64.specs.GeneralPurpose.{decode_of, IsBytes}
use Rattle.base64.specs.declared.decode.DecodeError.{DecodeError}
use Rattle.up_message.specs.Fields.{split_commas}
use Rattle.up_headers.specs.declared.metadata_fault.MetadataFault.{MetadataFault}
use Rattle.up_headers.specs.declared.metadata_fault.MetadataFault.TheVariants as Fault
use Rattle.up_headers.specs.Metadata.{Pair, has_key, ReadsPairs, HasFault}
use Rattle.up_headers.specs.Words.{skip_spaces, trim_end_spaces, first_word, behind_word}

-- the key of a part, which may be empty
abbrev pub key_of : List ℕ → List ℕ
key_of part = first_word part

-- the text of a part's value
abbrev pub value_text : List ℕ → List ℕ
value_text part = trim_end_spaces (skip_spaces (behind_word part))

-- the pair of a key and its decoded value
abbrev pub with_value : List ℕ → Result (List ℕ) DecodeError → Result Pair MetadataFault
with_value key (Ok value) = Ok (key, value)
with_value key (Err e) = Err Fault.BadValue

-- the pair that a part is after the pairs `before`, or its fault
abbrev pub part_reading : List Pair → List ℕ → Result Pair MetadataFault
part_reading before part =
    if length (key_of part) == 0 then Err Fault.EmptyKey
    else (if has_key (key_of part) before then Err Fault.KeyTwice else with_value (key_of part) (decode_of standard (value_text part)))

-- more is read after a pair, and nothing after a fault
abbrev pub and_then : Result Pair MetadataFault → (Pair → Result (List Pair) MetadataFault) → Result (List Pair) MetadataFault
and_then (Ok pair) more = more pair
and_then (Err fault) more = Err fault

-- the pairs `before` and those of the parts after them, or the first fault
abbrev pub parts_reading : List Pair → List (List ℕ) → Result (List Pair) MetadataFault
parts_reading before [] = Ok before
parts_reading before (part ∷ parts) = and_then (part_reading before part) (λ pair. parts_reading (before ++ pair ∷ []) parts)

-- the parts of a text, if there is one
abbrev pub parts_of : Option (Bor (List ℕ)) → List (List ℕ)
parts_of None = []
parts_of (Some text) = split_commas text.now

-- the pairs of a text, or its fault
abbrev pub reading : List ℕ → Result (List Pair) MetadataFault
reading [] = Ok []
reading (b ∷ bs) = parts_reading [] (split_commas (b ∷ bs))

-- the result is what was read, or that memory ran out
abbrev pub IsReadOrNoMemory : {T : Type 0} → Result T MetadataFault → Result T MetadataFault → Type 0
IsReadOrNoMemory (Ok x) right = right ≡ Ok x
IsReadOrNoMemory (Err Fault.NoMemory) right = Unit {0}
IsReadOrNoMemory (Err fault) right = right ≡ Err fault

-- `reading` returns only pairs that a text of bytes is read as, and only a fault that it has
abbrev pub ReadingTells : Type 0
ReadingTells = (text : List ℕ) → IsBytes text → MatchResult (reading text) (ReadsPairs text) (HasFault text)
