-- The keys of the pairs so far, kept as a set.
use Rattle.std.proofs.Common.{◌≡◌, ℕ, ◌<◌, ◌==◌, Bool, true, false, cond, not, ◌||◌, List, [], ◌∷◌, ◌++◌, length, bytes_eq, Result, Ok, Err, refl, sym, ap, ◌∙◌, arith}
use Rattle.std.proofs.lemmas.Bool.{ne_eqb}
use Rattle.base64.specs.Engines.{standard}
use Rattle.base64.specs.GeneralPurpose.{decode_of}
use Rattle.base64.specs.declared.decode.DecodeError.{DecodeError}
use Rattle.up_headers.specs.declared.metadata_fault.MetadataFault.TheVariants as Fault
use Rattle.up_headers.specs.Metadata.{Pair, has_key}
use Rattle.up_headers.specs.Words.{skip_spaces, trim_end_spaces, first_word, behind_word}
use Rattle.up_headers.specs.Reading.{key_of, value_text, with_value, part_reading}

last_test : (b : Bool) → (b || false) ≡ cond b true false
last_test true = refl
last_test false = refl

first_test : (a b h : Bool) → (a || cond b true h) ≡ cond b true (a || h)
first_test true true h = refl
first_test true false h = refl
first_test false true h = refl
first_test false false h = refl

-- whether a key stands among the pairs and one more
pub has_more : (key : List ℕ) (pairs : List Pair) (pair : Pair) → has_key key (pairs ++ pair ∷ []) ≡ cond (bytes_eq pair.0 key) true (has_key key pairs)
has_more key [] pair = last_test (bytes_eq pair.0 key)
has_more key (p ∷ pairs) pair =
    ap (λ t. bytes_eq p.0 key || t) (has_more key pairs pair) ∙ first_test (bytes_eq p.0 key) (bytes_eq pair.0 key) (has_key key pairs)

-- a key that was added is new
pub is_new : (b : Bool) → true ≡ not b → b ≡ false
is_new true e = let both : true ≡ false = e in cc both
is_new false e = refl

-- a pair has its key
pub with_key : (key : List ℕ) (d : Result (List ℕ) DecodeError) (pair : Pair) → with_value key d ≡ Ok pair → pair.0 ≡ key
with_key key (Ok value) pair is = let e : (key, value) ≡ pair = cc is in ap (λ (p : Pair). p.0) (sym e)
with_key key (Err fault) pair is = absurd (cc)

-- a part with a new key and a value that decodes is read
pub part_read : (before : List Pair) (part key behind : List ℕ) (pair : Pair) → key ≡ first_word part → behind ≡ behind_word part → 0 < length (first_word part)
    → has_key key before ≡ false → with_value key (decode_of standard (trim_end_spaces (skip_spaces behind))) ≡ Ok pair → part_reading before part ≡ Ok pair
part_read before part key behind pair is_key is_behind some new read =
    let value = with_value (key_of part) (decode_of standard (value_text part)) in
    let there : (length (key_of part) == 0) ≡ false = ne_eqb (length (key_of part)) 0 (λ none. omega (arith, none, some)) in
    ap (λ t. cond t (Err Fault.EmptyKey) (cond (has_key (key_of part) before) (Err Fault.KeyTwice) value)) there
    ∙ ap (λ t. cond t (Err Fault.KeyTwice) value) (ap (λ k. has_key k before) (sym is_key) ∙ new)
    ∙ (λ i. with_value (sym is_key i) (decode_of standard (trim_end_spaces (skip_spaces (sym is_behind i))))) ∙ read
