-- A metadata text has at most one fault.
use Rattle.std.proofs.Common.{◌≡◌, ℕ, ◌==◌, true, false, List, [], ◌∷◌, ◌++◌, length, sym, refl, ap, subst, ◌∙◌, arith, append_assoc, Result, Ok, Err}
use Rattle.std.proofs.lemmas.List.{append-nil}
use Rattle.std.proofs.lemmas.Bool.{ne_eqb}
use Rattle.base64.specs.Engines.{standard}
use Rattle.base64.specs.GeneralPurpose.{decode_of, IsBytes}
use Rattle.base64.specs.declared.decode.DecodeError.{DecodeError}
use Rattle.up_message.specs.Fields.{split_commas}
use Rattle.up_headers.specs.declared.metadata_fault.MetadataFault.{MetadataFault}
use Rattle.up_headers.specs.declared.metadata_fault.MetadataFault.TheVariants as Fault
use Rattle.up_headers.specs.Metadata.{Pair, HasKey, has_key, ArePairs, HaveNoCommas, with_commas, IsPart, IsPartFault, HasFault, FaultsOnce}
use Rattle.up_headers.specs.Reading.{key_of, value_text, part_reading, and_then, parts_reading}
use Rattle.up_headers.specs.Words.{until_space}
use Rattle.up_headers.proofs.MetadataTexts.{split_joined}
use Rattle.up_headers.proofs.WordLemmas.{all_spaces, word_found}
use Rattle.up_headers.proofs.MetadataParts.{part_read}
use Rattle.up_headers.proofs.MetadataAnswers.{AllBytes, bytes_joined, part_relates}

-- a part that begins with a key is read with that key
key_found : (part key : List ℕ) → HasKey part key → key_of part ≡ key
key_found part key has = (word_found part key has.0 has.1).0

-- and the key is not empty
key_some : (part key : List ℕ) → HasKey part key → (length (key_of part) == 0) ≡ false
key_some part key has = ne_eqb (length (key_of part)) 0 (omega (arith, ap length (key_found part key has), has.1.is_word.0))

-- a new key is read with its value, which does not decode where the part is no pair
value_read : (before : List Pair) (part : List ℕ) (d : Result (List ℕ) DecodeError) → IsBytes part → decode_of standard (value_text part) ≡ d
    → (length (key_of part) == 0) ≡ false → has_key (key_of part) before ≡ false → ((pair : Pair) → ¬ (IsPart part pair)) → part_reading before part ≡ Err Fault.BadValue
value_read before part (Err e) bytes is some new none = rw (some, new, is) refl
value_read before part (Ok value) bytes is some new none =
    let read : part_reading before part ≡ Ok (key_of part, value) = rw (some, new, is) refl in
    absurd (none (key_of part, value) (part_relates before part (key_of part, value) bytes read).0)

-- a part with a fault is read as it
fault_read : (before : List Pair) (part : List ℕ) (fault : MetadataFault) → IsBytes part → IsPartFault before part fault → part_reading before part ≡ Err fault
fault_read before part Fault.EmptyKey bytes is =
    let none : (length (key_of part) == 0) ≡ true = ap (λ t. length (until_space t) == 0) (all_spaces part is) in
    rw none refl
fault_read before part Fault.KeyTwice bytes is =
    let known : has_key (key_of part) before ≡ true = ap (λ k. has_key k before) (key_found part is.0 is.1) ∙ is.2 in
    rw (key_some part is.0 is.1, known) refl
fault_read before part Fault.BadValue bytes is =
    value_read before part (decode_of standard (value_text part)) bytes refl (key_some part is.0 is.1)
    (ap (λ k. has_key k before) (key_found part is.0 is.1) ∙ is.2) is.3
fault_read before part Fault.NoMemory bytes is = absurd is

-- and so are the parts behind pairs
parts_fault : (before : List Pair) (front : List (List ℕ)) (pairs : List Pair) (part : List ℕ) (behind : List (List ℕ)) (fault : MetadataFault)
    → IsBytes part → ArePairs before front pairs → IsPartFault (before ++ pairs) part fault → parts_reading before (front ++ part ∷ behind) ≡ Err fault
parts_fault before [] [] part behind fault bytes are is =
    ap (λ r. and_then r (λ pair. parts_reading (before ++ pair ∷ []) behind))
    (fault_read before part fault bytes (subst (λ ps. IsPartFault ps part fault) (append-nil before) is))
parts_fault before [] (pair ∷ pairs) part behind fault bytes are is = absurd are
parts_fault before (first ∷ front) [] part behind fault bytes are is = absurd are
parts_fault before (first ∷ front) (pair ∷ pairs) part behind fault bytes are is =
    ap (λ r. and_then r (λ pair. parts_reading (before ++ pair ∷ []) (front ++ part ∷ behind))) (part_read before first pair are.0 are.1)
    ∙ parts_fault (before ++ pair ∷ []) front pairs part behind fault bytes are.2
    (subst (λ ps. IsPartFault ps part fault) (sym (append_assoc before (pair ∷ []) pairs)) is)

-- one of parts that are bytes
bytes_at : (front : List (List ℕ)) (part : List ℕ) (behind : List (List ℕ)) → AllBytes (front ++ part ∷ behind) → IsBytes part
bytes_at [] part behind all = all.0
bytes_at (first ∷ front) part behind all = bytes_at front part behind all.1

-- some parts joined and cut again
cut_joined : (front : List (List ℕ)) (part : List ℕ) (behind : List (List ℕ)) → HaveNoCommas (front ++ part ∷ behind)
    → split_commas (with_commas (front ++ part ∷ behind)) ≡ front ++ part ∷ behind
cut_joined [] part behind none = split_joined part behind none
cut_joined (first ∷ front) part behind none = split_joined first (front ++ part ∷ behind) none

-- the parts of a text with a fault are read as it
fault_reading : (text : List ℕ) (fault : MetadataFault) → IsBytes text → HasFault text fault → parts_reading [] (split_commas text) ≡ Err fault
fault_reading text fault bytes has =
    let all = bytes_joined (has.before ++ has.part ∷ has.behind) (subst IsBytes has.are_parts.0 bytes) in
    ap (λ t. parts_reading [] (split_commas t)) has.are_parts.0 ∙ ap (parts_reading []) (cut_joined has.before has.part has.behind has.are_parts.1)
    ∙ parts_fault [] has.before has.pairs has.part has.behind fault (bytes_at has.before has.part has.behind all) has.are_pairs has.is_fault

-- so there is one of them
pub faults_once : FaultsOnce
faults_once text one other bytes a b =
    let e = sym (fault_reading text one bytes a) ∙ fault_reading text other bytes b in cc e
