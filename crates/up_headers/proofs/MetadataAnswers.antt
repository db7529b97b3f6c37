-- What the reading of a metadata text tells of it.
use Rattle.std.proofs.Common.{◌≡◌, ◌≢◌, ℕ, zero, suc, ◌<◌, ◌==◌, Bool, true, false, cond, List, [], ◌∷◌, ◌++◌, length, sym, refl, ap, subst, ◌∙◌, arith, append_assoc, lit<, Result, Ok, Err, IfOk, MatchResult}
use Rattle.std.specs.Result.{IfErr}
use Rattle.std.specs.List.{list_all}
use Rattle.std.proofs.lemmas.List.{append-nil}
use Rattle.std.proofs.lemmas.Bool.{eqb-true}
use Rattle.base64.specs.Engines.{standard}
use Rattle.base64.specs.GeneralPurpose.{encode_of, decode_of, IsBytes}
use Rattle.base64.specs.declared.decode.DecodeError.{DecodeError}
use Rattle.base64.proofs.EngineFacts.{decode_of-encode_of, decode_of_strict, front_bytes}
use Rattle.up_headers.specs.Words.{is_no_space, behind_word}
use Rattle.up_headers.proofs.DecodedBytes.{back_bytes, decoded_is_bytes}
use Rattle.up_headers.specs.declared.metadata_fault.MetadataFault.{MetadataFault}
use Rattle.up_headers.specs.declared.metadata_fault.MetadataFault.TheVariants as Fault
use Rattle.up_headers.specs.Metadata.{Pair, HaveNoCommas, IsPart, has_key, ArePairs, with_commas, ReadsPairs, IsPartFault, HasFault, IsRefusal}
use Rattle.up_headers.specs.Reading.{key_of, value_text, with_value, part_reading, and_then, parts_reading, reading, IsReadOrNoMemory, ReadingTells}
use Rattle.up_message.specs.Fields.{split_commas}
use Rattle.up_headers.proofs.MetadataTexts.{split_no_commas, joined_split}
use Rattle.up_headers.proofs.WordLemmas.{begins_with, no_word}
use Rattle.up_headers.proofs.MetadataParts.{part_facts, encoding_empty}
use Rattle.up_headers.proofs.MetadataPairs.{reads_reading}
use Rattle.up_headers.proofs.MetadataCuts.{parted}

-- a number that is not zero
some_of : (n : ℕ) → (n == 0) ≡ false → 0 < n
some_of zero e = absurd (cc)
some_of (suc n) e = omega arith

-- a pair comes of a key that is new and a value that decodes
outcome_parts : (empty known : Bool) (key : List ℕ) (d : Result (List ℕ) DecodeError) (pair : Pair)
    → cond empty (Err Fault.EmptyKey) (cond known (Err Fault.KeyTwice) (with_value key d)) ≡ Ok pair
    → (empty ≡ false) × (known ≡ false) × (key ≡ pair.0) × (d ≡ Ok pair.1)
outcome_parts true known key d pair is = absurd (cc)
outcome_parts false true key d pair is = absurd (cc)
outcome_parts false false key (Ok value) pair is =
    let e : (key, value) ≡ pair = cc is in (refl, refl, ap (λ (p : Pair). p.0) e, ap (λ (p : Pair). Ok p.1) e)
outcome_parts false false key (Err e) pair is = absurd (cc)

-- a value that needs a gap has one
apart_of : (g : ℕ) (value : List ℕ) → (g ≡ 0 → value ≡ []) → 0 < length value → 0 < g
apart_of zero value none some = absurd (omega (arith, ap length (none refl)))
apart_of (suc g) value none some = omega arith

-- the empty text decodes
decode_empty : decode_of standard [] ≡ Ok []
decode_empty = ap (decode_of standard) (sym (encoding_empty [] refl)) ∙ decode_of-encode_of standard [] refl (λ i. lit< tt)

-- a part that is read as a pair is that pair
pub part_relates : (before : List Pair) (part : List ℕ) (pair : Pair) → IsBytes part → part_reading before part ≡ Ok pair
    → IsPart part pair × (has_key pair.0 before ≡ false)
part_relates before part pair bytes is =
    let o = outcome_parts (length (key_of part) == 0) (has_key (key_of part) before) (key_of part) (decode_of standard (value_text part)) pair is in
    let p = parted part in
    let key : p.key ≡ pair.0 = sym p.is_key ∙ o.2 in
    let inner = back_bytes p.left (p.key ++ p.rest) (subst IsBytes p.spelled bytes) in
    let behind = back_bytes p.gap (value_text part ++ p.right) (subst IsBytes p.is_rest (back_bytes p.key p.rest inner)) in
    let read : IsBytes (value_text part) = front_bytes (value_text part) p.right behind in
    let value : value_text part ≡ encode_of standard pair.1 = decode_of_strict standard (value_text part) pair.1 (refl, refl) read o.3 in
    let none : length p.gap ≡ 0 → pair.1 ≡ [] = λ (e : length p.gap ≡ 0).
    let ok = sym o.3 ∙ ap (decode_of standard) (p.apart e) ∙ decode_empty in cc ok in (
      record {
        left = p.left;
        gap = p.gap;
        right = p.right;
        spelled = p.spelled ∙ ap (λ r. p.left ++ (p.key ++ r)) p.is_rest ∙ ap (λ k. p.left ++ (k ++ (p.gap ++ (value_text part ++ p.right)))) key
            ∙ ap (λ v. p.left ++ (pair.0 ++ (p.gap ++ (v ++ p.right)))) value;
        spaces = p.spaces;
        is_key = (omega (arith, ap length o.2, some_of (length (key_of part)) o.0), subst (λ k. list_all is_no_space k ≡ true) key p.keyed);
        is_value = decoded_is_bytes (value_text part) pair.1 read o.3;
        apart = apart_of (length p.gap) pair.1 none;
      },
      ap (λ k. has_key k before) (sym o.2) ∙ o.1,
    )

-- when a part is read as a fault, by its key and value
abbrev pub Case : MetadataFault → Bool → Bool → Result (List ℕ) DecodeError → Type 0
Case Fault.EmptyKey empty known d = empty ≡ true
Case Fault.KeyTwice empty known d = (empty ≡ false) × (known ≡ true)
Case Fault.BadValue empty known d = (empty ≡ false) × (known ≡ false) × ((value : List ℕ) → d ≢ Ok value)
Case Fault.NoMemory empty known d = ⊥

-- a fault comes of its case
outcome_fault : (empty known : Bool) (key : List ℕ) (d : Result (List ℕ) DecodeError) (fault : MetadataFault)
    → cond empty (Err Fault.EmptyKey) (cond known (Err Fault.KeyTwice) (with_value key d)) ≡ Err fault → Case fault empty known d
outcome_fault true known key d fault is = let e : Fault.EmptyKey ≡ fault = cc is in subst (λ f. Case f true known d) e refl
outcome_fault false true key d fault is = let e : Fault.KeyTwice ≡ fault = cc is in subst (λ f. Case f false true d) e (refl, refl)
outcome_fault false false key (Ok value) fault is = absurd (cc)
outcome_fault false false key (Err x) fault is =
    let e : Fault.BadValue ≡ fault = cc is in subst (λ f. Case f false false (Err x)) e (refl, refl, λ v same. cc same)

-- a part in the case of a fault has it
fault_of_case : (before : List Pair) (part : List ℕ) (fault : MetadataFault)
    → Case fault (length (key_of part) == 0) (has_key (key_of part) before) (decode_of standard (value_text part)) → IsPartFault before part fault
fault_of_case before part Fault.EmptyKey is = no_word part (eqb-true (length (key_of part)) 0 is)
fault_of_case before part Fault.KeyTwice is = (key_of part, (behind_word part, begins_with part (some_of (length (key_of part)) is.0)), is.1)
fault_of_case before part Fault.BadValue is = (
  key_of part,
  (behind_word part, begins_with part (some_of (length (key_of part)) is.0)),
  is.1,
  λ pair reads. is.2 pair.1 (ap (decode_of standard) (part_facts part pair reads).1 ∙ decode_of-encode_of standard pair.1 refl reads.is_value),
)
fault_of_case before part Fault.NoMemory is = absurd is

-- a part that is read as a fault has it
pub part_fault : (before : List Pair) (part : List ℕ) (fault : MetadataFault) → part_reading before part ≡ Err fault → IsPartFault before part fault
part_fault before part fault is =
    fault_of_case before part fault (outcome_fault (length (key_of part) == 0) (has_key (key_of part) before) (key_of part) (decode_of standard (value_text part)) fault is)

-- each part is bytes
abbrev pub AllBytes : List (List ℕ) → Type 0
AllBytes [] = Unit {0}
AllBytes (part ∷ parts) = (IsBytes part) × AllBytes parts

-- parts of a text of bytes
pub bytes_joined : (parts : List (List ℕ)) → IsBytes (with_commas parts) → AllBytes parts
bytes_joined [] all = tt
bytes_joined (part ∷ []) all = (all, tt)
bytes_joined (part ∷ next ∷ parts) all = (
  front_bytes part (44 ∷ with_commas (next ∷ parts)) all,
  bytes_joined (next ∷ parts) (λ i. back_bytes part (44 ∷ with_commas (next ∷ parts)) all (suc i)),
)

-- the pairs of parts, behind others
Paired : List Pair → List (List ℕ) → List Pair → Type 0
Paired before parts out = (pairs : List Pair) × (out ≡ before ++ pairs) × ArePairs before parts pairs

-- one part more that is read
one_paired : (before : List Pair) (part : List ℕ) (parts : List (List ℕ)) (out : List Pair) (r : Result Pair MetadataFault)
    → part_reading before part ≡ r → and_then r (λ pair. parts_reading (before ++ pair ∷ []) parts) ≡ Ok out
    → IsBytes part
    → ((pair : Pair) → parts_reading (before ++ pair ∷ []) parts ≡ Ok out → Paired (before ++ pair ∷ []) parts out)
    → Paired before (part ∷ parts) out
unfolding Paired
one_paired before part parts out (Ok pair) is same bytes more =
    let m = more pair same in
    let f = part_relates before part pair bytes is in
    (pair ∷ m.0, m.1 ∙ append_assoc before (pair ∷ []) m.0, (f.0, f.1, m.2))
one_paired before part parts out (Err fault) is same bytes more = absurd (cc)

-- parts that are read as pairs are those pairs
paired : (before : List Pair) (parts : List (List ℕ)) (out : List Pair) → AllBytes parts → parts_reading before parts ≡ Ok out → Paired before parts out
unfolding Paired
paired before [] out bytes is = let e : before ≡ out = cc is in ([], sym e ∙ sym (append-nil before), tt)
paired before (part ∷ parts) out bytes is =
    one_paired before part parts out (part_reading before part) refl is bytes.0 (λ pair same. paired (before ++ pair ∷ []) parts out bytes.1 same)

-- parts of which the first at fault has the fault
record Failed (before : List Pair) (parts : List (List ℕ)) (fault : MetadataFault) : Type 0 where
  front : List (List ℕ)
  part : List ℕ
  behind : List (List ℕ)
  whole : parts ≡ front ++ part ∷ behind
  pairs : List Pair
  are_pairs : ArePairs before front pairs
  is_fault : IsPartFault (before ++ pairs) part fault

-- one part more, at fault or in front of one
one_failed : (before : List Pair) (part : List ℕ) (parts : List (List ℕ)) (fault : MetadataFault) (r : Result Pair MetadataFault)
    → part_reading before part ≡ r → and_then r (λ pair. parts_reading (before ++ pair ∷ []) parts) ≡ Err fault
    → IsBytes part
    → ((pair : Pair) → parts_reading (before ++ pair ∷ []) parts ≡ Err fault → Failed (before ++ pair ∷ []) parts fault)
    → Failed before (part ∷ parts) fault
one_failed before part parts fault (Ok pair) is same bytes more =
    let m = more pair same in
    let f = part_relates before part pair bytes is in
    record {
      front = part ∷ m.front;
      part = m.part;
      behind = m.behind;
      whole = ap (λ ps. part ∷ ps) m.whole;
      pairs = pair ∷ m.pairs;
      are_pairs = (f.0, f.1, m.are_pairs);
      is_fault = subst (λ ps. IsPartFault ps m.part fault) (append_assoc before (pair ∷ []) m.pairs) m.is_fault;
    }
one_failed before part parts fault (Err found) is same bytes more =
    let e : found ≡ fault = cc same in
    record {
      front = [];
      part = part;
      behind = parts;
      whole = refl;
      pairs = [];
      are_pairs = tt;
      is_fault = subst (λ ps. IsPartFault ps part fault) (sym (append-nil before)) (part_fault before part fault (is ∙ ap (λ f. Err f) e));
    }

-- parts that are read as a fault have it
failed : (before : List Pair) (parts : List (List ℕ)) (fault : MetadataFault) → AllBytes parts → parts_reading before parts ≡ Err fault → Failed before parts fault
failed before [] fault bytes is = absurd (cc)
failed before (part ∷ parts) fault bytes is =
    one_failed before part parts fault (part_reading before part) refl is bytes.0 (λ pair same. failed (before ++ pair ∷ []) parts fault bytes.1 same)

-- the parts of a text of bytes are bytes
split_bytes : (text : List ℕ) → IsBytes text → AllBytes (split_commas text)
split_bytes text all = bytes_joined (split_commas text) (subst IsBytes (sym (joined_split text)) all)

-- a text that is read as pairs reads as them
pub reading_reads : (text : List ℕ) (pairs : List Pair) → IsBytes text → reading text ≡ Ok pairs → ReadsPairs text pairs
unfolding Paired
reading_reads [] pairs bytes is = let e : [] ≡ pairs = cc is in ([], (refl, tt), subst (λ ps. ArePairs [] [] ps) e tt)
reading_reads (b ∷ bs) pairs bytes is =
    let m = paired [] (split_commas (b ∷ bs)) pairs (split_bytes (b ∷ bs) bytes) is in
    (split_commas (b ∷ bs), (sym (joined_split (b ∷ bs)), split_no_commas (b ∷ bs)), subst (λ ps. ArePairs [] (split_commas (b ∷ bs)) ps) (sym m.1) m.2)

-- a text that is read as a fault has it, and reads as no pairs
pub reading_fault : (text : List ℕ) (fault : MetadataFault) → IsBytes text → reading text ≡ Err fault → HasFault text fault × ((pairs : List Pair) → ¬ (ReadsPairs text pairs))
reading_fault [] fault bytes is = absurd (cc)
reading_fault (b ∷ bs) fault bytes is =
    let m = failed [] (split_commas (b ∷ bs)) fault (split_bytes (b ∷ bs) bytes) is in (
      record {
        before = m.front;
        part = m.part;
        behind = m.behind;
        are_parts = (sym (joined_split (b ∷ bs)) ∙ ap with_commas m.whole, subst HaveNoCommas m.whole (split_no_commas (b ∷ bs)));
        pairs = m.pairs;
        are_pairs = m.are_pairs;
        is_fault = m.is_fault;
      },
      λ pairs reads. let both = sym is ∙ reads_reading (b ∷ bs) pairs reads in cc both,
    )

-- an error that is answered is a refusal
pub refused : (text : List ℕ) (fault : MetadataFault) → IsBytes text → IsReadOrNoMemory {T = List Pair} (Err fault) (reading text) → IsRefusal text fault
refused text Fault.EmptyKey bytes is = reading_fault text Fault.EmptyKey bytes is
refused text Fault.KeyTwice bytes is = reading_fault text Fault.KeyTwice bytes is
refused text Fault.BadValue bytes is = reading_fault text Fault.BadValue bytes is
refused text Fault.NoMemory bytes is = tt

-- pairs that are answered
pub answer_ok : (text : List ℕ) (r : Result (List Pair) MetadataFault) → IsBytes text → IsReadOrNoMemory r (reading text) → IfOk r (λ pairs. ReadsPairs text pairs)
answer_ok text (Ok pairs) bytes is = reading_reads text pairs bytes is
answer_ok text (Err fault) bytes is = tt

-- errors that are answered
pub answer_err : (text : List ℕ) (r : Result (List Pair) MetadataFault) → IsBytes text → IsReadOrNoMemory r (reading text) → IfErr r (IsRefusal text)
answer_err text (Ok pairs) bytes is = tt
answer_err text (Err fault) bytes is = refused text fault bytes is

-- the reading, and what it is
tells : (text : List ℕ) → IsBytes text → (r : Result (List Pair) MetadataFault) → reading text ≡ r → MatchResult r (ReadsPairs text) (HasFault text)
tells text bytes (Ok pairs) is = reading_reads text pairs bytes is
tells text bytes (Err fault) is = (reading_fault text fault bytes is).0

pub reading_tells : ReadingTells
reading_tells text bytes = tells text bytes (reading text) refl
