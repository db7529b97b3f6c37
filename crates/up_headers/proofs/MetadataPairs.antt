-- A whole metadata text: the relation and the reading.
use Rattle.std.proofs.Common.{◌≡◌, ℕ, ◌<◌, List, [], ◌∷◌, ◌++◌, length, sym, refl, ap, ◌∙◌, arith, append_assoc, Ok}
use Rattle.std.proofs.lemmas.List.{length-append, append-nil}
use Rattle.base64.specs.Engines.{standard}
use Rattle.base64.specs.GeneralPurpose.{encode_of}
use Rattle.up_headers.specs.Metadata.{Pair, IsPart, ArePairs, HaveNoCommas, with_commas, ReadsPairs, ReadsOnce}
use Rattle.up_headers.specs.Reading.{and_then, parts_reading, reading}
use Rattle.up_message.specs.Fields.{split_commas}
use Rattle.up_headers.proofs.MetadataTexts.{split_joined}
use Rattle.up_headers.proofs.MetadataParts.{part_read}

-- parts that are pairs are read as those
pub parts_read : (before : List Pair) (parts : List (List ℕ)) (pairs : List Pair) → ArePairs before parts pairs → parts_reading before parts ≡ Ok (before ++ pairs)
parts_read before [] [] are = ap Ok (sym (append-nil before))
parts_read before [] (pair ∷ pairs) are = absurd are
parts_read before (part ∷ parts) [] are = absurd are
parts_read before (part ∷ parts) (pair ∷ pairs) are =
    ap (λ r. and_then r (λ pair. parts_reading (before ++ pair ∷ []) parts)) (part_read before part pair are.0 are.1)
    ∙ parts_read (before ++ pair ∷ []) parts pairs are.2 ∙ ap Ok (append_assoc before (pair ∷ []) pairs)

-- a text that is not empty
pub reading_some : (text : List ℕ) → 0 < length text → reading text ≡ parts_reading [] (split_commas text)
reading_some [] some = absurd (omega arith)
reading_some (b ∷ bs) some = refl

-- a part that is a pair is not empty
part_some : (part : List ℕ) (pair : Pair) → IsPart part pair → 0 < length part
part_some part pair is =
    omega (arith, ap length is.spelled, length-append is.left (pair.0 ++ (is.gap ++ (encode_of standard pair.1 ++ is.right))), length-append pair.0 (is.gap ++ (encode_of standard pair.1 ++ is.right)), is.is_key.0)

-- nor is a text with such a part first
joined_some : (part : List ℕ) (parts : List (List ℕ)) → 0 < length part → 0 < length (with_commas (part ∷ parts))
joined_some part [] some = some
joined_some part (next ∷ parts) some = omega (arith, length-append part (44 ∷ with_commas (next ∷ parts)))

-- joined parts that are pairs are read as those
joined_read : (parts : List (List ℕ)) (pairs : List Pair) → HaveNoCommas parts → ArePairs [] parts pairs → reading (with_commas parts) ≡ Ok pairs
joined_read [] [] none are = refl
joined_read [] (pair ∷ pairs) none are = absurd are
joined_read (part ∷ parts) [] none are = absurd are
joined_read (part ∷ parts) (pair ∷ pairs) none are =
    reading_some (with_commas (part ∷ parts)) (joined_some part parts (part_some part pair are.0))
    ∙ ap (parts_reading []) (split_joined part parts none)
    ∙ parts_read [] (part ∷ parts) (pair ∷ pairs) are

-- a text that reads as pairs is read as those
pub reads_reading : (text : List ℕ) (pairs : List Pair) → ReadsPairs text pairs → reading text ≡ Ok pairs
reads_reading text pairs reads = ap reading reads.1.0 ∙ joined_read reads.0 pairs reads.1.1 reads.2

-- so there is one list of them
pub reads_once : ReadsOnce
reads_once text one other a b =
    let e = sym (reads_reading text one a) ∙ reads_reading text other b in cc e
