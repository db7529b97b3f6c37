-- One part of a metadata text: the relation and the reading.
use Rattle.std.proofs.Common.{◌≡◌, ℕ, zero, suc, ◌+◌, ◌*◌, ◌/◌, ◌%◌, ◌<◌, ◌==◌, Bool, true, false, cond, not, ◌&&◌, List, [], ◌∷◌, ◌++◌, length, get_or, reverse, refl, ap, ◌∙◌, arith, Result, Ok, Err}
use Rattle.std.specs.Prelude.{replicate}
use Rattle.std.specs.List.{list_all}
use Rattle.std.proofs.lemmas.List.{reverse-append, reverse-reverse}
use Rattle.std.proofs.lemmas.Bool.{ne_eqb}
use Rattle.base64.specs.Engines.{standard}
use Rattle.base64.specs.GeneralPurpose.{encode_of, decode_of}
use Rattle.base64.specs.Rfc4648.{encode_symbols, padding_len}
use Rattle.base64.specs.declared.decode.DecodeError.{DecodeError}
use Rattle.base64.proofs.EngineFacts.{decode_of-encode_of}
use Rattle.up_headers.specs.declared.metadata_fault.MetadataFault.TheVariants as Fault
use Rattle.up_headers.specs.Metadata.{Pair, IsPart, has_key}
use Rattle.up_headers.specs.Reading.{key_of, value_text, with_value, part_reading}
use Rattle.up_headers.specs.Words.{is_space, is_no_space, AreSpaces, skip_spaces, from_space, trim_end_spaces, until_space}
use Rattle.up_headers.proofs.WordLemmas.{word_stays, all_spaces, word_taken}
use Rattle.up_headers.proofs.MetadataTexts.{all_first, all_rest, all_append, drop_through, drop_none, not_true}

-- two tests that pass
both : (a b : Bool) → a ≡ true → b ≡ true → (a && b) ≡ true
both a b is more = ap (λ t. t && b) is ∙ more

-- no space stands in an encoding
no_space_at : (t : List ℕ) (i : ℕ) → list_all is_no_space t ≡ true → is_no_space (get_or t i 0) ≡ true
no_space_at [] i all = refl
no_space_at (b ∷ bs) zero all = all_first is_no_space b bs all
no_space_at (b ∷ bs) (suc i) all = no_space_at bs i (all_rest is_no_space b bs all)

-- nor in its symbols
symbols_no_space : (t m : List ℕ) → list_all is_no_space t ≡ true → list_all is_no_space (encode_symbols t m) ≡ true
unfolding encode_symbols
symbols_no_space t [] all = refl
symbols_no_space t (a ∷ []) all = both _ _ (no_space_at t (a / 4) all) (both _ _ (no_space_at t (a % 4 * 16) all) refl)
symbols_no_space t (a ∷ b ∷ []) all =
    both _ _ (no_space_at t (a / 4) all) (both _ _ (no_space_at t (a % 4 * 16 + b / 16) all) (both _ _ (no_space_at t (b % 16 * 4) all) refl))
symbols_no_space t (a ∷ b ∷ c ∷ rest) all =
    both _ _ (no_space_at t (a / 4) all) (both _ _ (no_space_at t (a % 4 * 16 + b / 16) all) (both _ _ (no_space_at t (b % 16 * 4 + c / 64) all)
    (both _ _ (no_space_at t (c % 64) all) (symbols_no_space t rest all))))

-- nor in its padding
padding_no_space : (n : ℕ) → list_all is_no_space (replicate n 61) ≡ true
padding_no_space zero = refl
padding_no_space (suc n) = padding_no_space n

-- nor in all of it
pub encoding_no_space : (m : List ℕ) → list_all is_no_space (encode_of standard m) ≡ true
encoding_no_space m =
    all_append is_no_space (encode_symbols standard.encode_table m) (replicate (padding_len (length m)) 61) (symbols_no_space standard.encode_table m refl) (padding_no_space (padding_len (length m)))

-- only no bytes have the empty encoding
pub encoding_empty : (m : List ℕ) → length m ≡ 0 → encode_of standard m ≡ []
unfolding encode_symbols
encoding_empty [] none = refl
encoding_empty (b ∷ bs) none = absurd (omega arith)

-- a space is not skipped by a search for one
space_stays : (g : ℕ) (gs : List ℕ) → is_space g ≡ true → from_space (g ∷ gs) ≡ g ∷ gs
space_stays g gs is = drop_none is_no_space g gs (ap not is)

-- from the first space on, spaces are all
spaces_stay : (spaces : List ℕ) → AreSpaces spaces → from_space spaces ≡ spaces
spaces_stay [] all = refl
spaces_stay (g ∷ gs) all = space_stays g gs (all_first is_space g gs all)

-- and so is a gap with what is behind it
gap_stays : (gap text right : List ℕ) → AreSpaces gap → AreSpaces right → (length gap ≡ 0 → text ≡ []) → from_space (gap ++ (text ++ right)) ≡ gap ++ (text ++ right)
gap_stays [] text right all more none = let e = none refl in rw e (spaces_stay right more)
gap_stays (g ∷ gs) text right all more none = space_stays g (gs ++ (text ++ right)) (all_first is_space g gs all)

-- a text without spaces has none to skip
none_skipped : (xs : List ℕ) → list_all is_no_space xs ≡ true → skip_spaces xs ≡ xs
none_skipped [] all = refl
none_skipped (b ∷ bs) all = drop_none is_space b bs (not_true (b == 32) (all_first is_no_space b bs all))

-- a test that all pass, from the end
pub all_reverse : (test : ℕ → Bool) (xs : List ℕ) → list_all test xs ≡ true → list_all test (reverse xs) ≡ true
all_reverse test [] all = refl
all_reverse test (b ∷ bs) all =
    ap (list_all test) (reverse-append (b ∷ []) bs)
    ∙ all_append test (reverse bs) (b ∷ []) (all_reverse test bs (all_rest test b bs all)) (both _ _ (all_first test b bs all) refl)

-- spaces at the end go
end_trimmed : (xs right : List ℕ) → list_all is_no_space xs ≡ true → AreSpaces right → trim_end_spaces (xs ++ right) ≡ xs
end_trimmed xs right all spaces =
    ap (λ t. reverse (skip_spaces t)) (reverse-append xs right)
    ∙ ap reverse (drop_through is_space (reverse right) (reverse xs) (all_reverse is_space right spaces))
    ∙ ap reverse (none_skipped (reverse xs) (all_reverse is_no_space xs all))
    ∙ reverse-reverse xs

-- a text without spaces is left of one with spaces behind
trimmed : (xs right : List ℕ) → list_all is_no_space xs ≡ true → AreSpaces right → trim_end_spaces (skip_spaces (xs ++ right)) ≡ xs
trimmed [] right all spaces = ap trim_end_spaces (all_spaces right spaces)
trimmed (b ∷ bs) right all spaces =
    ap trim_end_spaces (drop_none is_space b (bs ++ right) (not_true (b == 32) (all_first is_no_space b bs all))) ∙ end_trimmed (b ∷ bs) right all spaces

-- of a part that is a pair these are the key and the encoding
pub part_facts : (part : List ℕ) (pair : Pair) → IsPart part pair → (key_of part ≡ pair.0) × (value_text part ≡ encode_of standard pair.1)
part_facts part pair is =
    let encoded = encode_of standard pair.1 in
    let text : List ℕ = is.gap ++ (encoded ++ is.right) in
    let skipped : skip_spaces part ≡ pair.0 ++ text =
    ap skip_spaces is.spelled ∙ drop_through is_space is.left (pair.0 ++ text) is.spaces.0 ∙ word_stays pair.0 text is.is_key in
    let none : length is.gap ≡ 0 → encoded ≡ [] = λ (e : length is.gap ≡ 0). encoding_empty pair.1 (no_value (length pair.1) (length is.gap) e is.apart) in
    let found : from_space (pair.0 ++ text) ≡ text =
    drop_through is_no_space pair.0 text is.is_key.1 ∙ gap_stays is.gap encoded is.right is.spaces.1 is.spaces.2 none in (
      ap until_space skipped ∙ word_taken pair.0 text found,
      ap (λ t. trim_end_spaces (skip_spaces (from_space t))) skipped ∙ ap (λ t. trim_end_spaces (skip_spaces t)) found
          ∙ ap trim_end_spaces (drop_through is_space is.gap (encoded ++ is.right) is.spaces.1)
          ∙ trimmed encoded is.right (encoding_no_space pair.1) is.spaces.2,
    )
  where
    no_value : (n g : ℕ) → g ≡ 0 → (0 < n → 0 < g) → n ≡ 0
    no_value zero g e apart = refl
    no_value (suc n) g e apart = absurd (omega (arith, apart (omega arith)))

-- a new key and a value that decodes are read as a pair
outcome_ok : (n : ℕ) (known : Bool) (key : List ℕ) (d : Result (List ℕ) DecodeError) (pair : Pair)
    → 0 < n → known ≡ false → key ≡ pair.0 → d ≡ Ok pair.1
    → cond (n == 0) (Err Fault.EmptyKey) (cond known (Err Fault.KeyTwice) (with_value key d)) ≡ Ok pair
outcome_ok n known key d pair some new same value = let e : (n == 0) ≡ false = ne_eqb n 0 (omega arith) in rw (e, new, same, value) refl

-- a part that is a pair with a new key is read as it
pub part_read : (before : List Pair) (part : List ℕ) (pair : Pair) → IsPart part pair → has_key pair.0 before ≡ false → part_reading before part ≡ Ok pair
part_read before part pair is new =
    let facts = part_facts part pair is in
    outcome_ok (length (key_of part)) (has_key (key_of part) before) (key_of part) (decode_of standard (value_text part)) pair
    (omega (arith, ap length facts.0, is.is_key.0)) (ap (λ k. has_key k before) facts.0 ∙ new) facts.0
    (ap (decode_of standard) facts.1 ∙ decode_of-encode_of standard pair.1 refl is.is_value)
