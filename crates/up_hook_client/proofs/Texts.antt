-- What is written of an upload, of ids and of metadata.
use Rattle.std.proofs.Common.{◌≡◌, ℕ, zero, suc, ◌/◌, ◌%◌, ◌<◌, ◌==◌, nat_lt, List, [], ◌∷◌, ◌++◌, Bool, Option, None, Some, map, true, false, ◌||◌, codes, Result, Ok, Err, OnOk, is_ok, if◌then◌else◌, refl, ap, ◌∙◌, sym, Ordering, Less, Equal, Greater, arith}
use Rattle.std.proofs.lemmas.Bool.{and_parts}
use Rattle.std.proofs.lemmas.Grind.{flat_map-append}
use Rattle.std.proofs.lemmas.List.{append_assoc}
use Rattle.std.proofs.lemmas.Str.{utf8_lossy-IsUtf8}
use Rattle.std.specs.List.{list_all}
use Rattle.std.specs.Str.{IsUtf8}
use Rattle.std.specs.Str.Lossy.{utf8_lossy}
use Rattle.std.specs.Ordering.{match_ordering, nat_cmp}
use Rattle.std.specs.Cmp.Lexicographic.{slice_cmp}
use Rattle.json.specs.Print.{escape, escape_byte, quoted}
use Rattle.serde_json.specs.Data.{Data, boolean, string, Members, no_members, member, put}
use Rattle.serde_json.specs.View.{items_of}
use Rattle.serde_json.specs.Written.{compact_text, has_float, items_have_float, members_have_float}
use Rattle.serde_json.proofs.OnLiterals.{serde_json_on_literals}
use Rattle.up_events.specs.IdText.{hex_digit, hex_digits}
use Rattle.up_events.specs.declared.event.Kind.{Kind}
use Rattle.up_events.specs.declared.event.Kind.TheVariants.{Plain, Partial, Final}
use Rattle.up_headers.specs.Concat.{Concat}
use Rattle.up_hook_client.specs.Told.{AreParts, id_string, id_text, is_final, is_partial, is_plain, metadata, parts_in, put_pairs, upload_begin, upload_data, upload_end}

no_float-match_ordering : (o : Ordering) (a b c : Members) → members_have_float a ≡ false → members_have_float b ≡ false → members_have_float c ≡ false → members_have_float (match_ordering o a b c) ≡ false
no_float-match_ordering Less a b c p q r = p
no_float-match_ordering Equal a b c p q r = q
no_float-match_ordering Greater a b c p q r = r

both_false : (a b : Bool) → a ≡ false → b ≡ false → (a || b) ≡ false
both_false a b p q = grind (arith, p, q)

first_false : (a b : Bool) → (a || b) ≡ false → a ≡ false
first_false a b h = grind (arith, h)

second_false : (a b : Bool) → (a || b) ≡ false → b ≡ false
second_false a b h = grind (arith, h)

-- a member without a float adds none
pub put_has_no_float : (k : List ℕ) (d : Data) (ms : Members) → has_float d ≡ false → members_have_float ms ≡ false → members_have_float (put k d ms) ≡ false
put_has_no_float k d no_members p q = both_false (has_float d) false p refl
put_has_no_float k d (member l e ms) p q =
    let first = first_false (has_float e) (members_have_float ms) q in
    let rest = second_false (has_float e) (members_have_float ms) q in
    no_float-match_ordering (slice_cmp nat_cmp k l) (member k d (member l e ms)) (member l d ms) (member l e (put k d ms)) (both_false _ _ p q) (both_false _ _ p rest) (both_false _ _ first (put_has_no_float k d ms p rest))

-- ---- ids

letter_is_plain : (x : ℕ) → (x == 34) ≡ false → (x == 92) ≡ false → (x == 8) ≡ false → (x == 12) ≡ false → (x == 10) ≡ false → (x == 13) ≡ false → (x == 9) ≡ false → nat_lt x 32 ≡ false → escape_byte x ≡ x ∷ []
unfolding escape_byte
letter_is_plain x a b c d e f g h = rw (a, b, c, d, e, f, g, h) refl

digit_is_plain : (d : ℕ) → d < 16 → escape (hex_digit d ∷ []) ≡ hex_digit d ∷ []
digit_is_plain d small =
    ap (λ x. x ++ []) (letter_is_plain (hex_digit d) (grind (arith, small)) (grind (arith, small)) (grind (arith, small)) (grind (arith, small)) (grind (arith, small)) (grind (arith, small)) (grind (arith, small)) (grind (arith, small)))

pub digits_are_plain : (places n : ℕ) → escape (hex_digits places n) ≡ hex_digits places n
unfolding hex_digits
digits_are_plain zero n = refl
digits_are_plain (suc places) n = flat_map-append escape_byte (hex_digits places (n / 16)) (hex_digit (n % 16) ∷ []) ∙ (ap (λ x. x ++ escape (hex_digit (n % 16) ∷ [])) (digits_are_plain places (n / 16)) ∙ ap (λ x. hex_digits places (n / 16) ++ x) (digit_is_plain (n % 16) (omega arith)))

pub id_is_plain : (id : Option ℕ) → escape (id_text id) ≡ id_text id
id_is_plain None = refl
id_is_plain (Some id) = digits_are_plain 32 id

-- ---- the text of an upload

begin_joined : (id f r rest : List ℕ) → (codes "{\"ID\":\"" ++ (id ++ (codes "\",\"IsFinal\":" ++ (f ++ (codes ",\"IsPartial\":" ++ (r ++ codes ",\"MetaData\":")))))) ++ rest ≡ codes "{\"ID\":\"" ++ (id ++ (codes "\",\"IsFinal\":" ++ (f ++ (codes ",\"IsPartial\":" ++ (r ++ (codes ",\"MetaData\":" ++ rest))))))
begin_joined id f r rest =
    ap (λ x. codes "{\"ID\":\"" ++ x) (append_assoc id (codes "\",\"IsFinal\":" ++ (f ++ (codes ",\"IsPartial\":" ++ (r ++ codes ",\"MetaData\":")))) rest)
    ∙ (ap (λ x. codes "{\"ID\":\"" ++ (id ++ (codes "\",\"IsFinal\":" ++ x))) (append_assoc f (codes ",\"IsPartial\":" ++ (r ++ codes ",\"MetaData\":")) rest)
    ∙ ap (λ x. codes "{\"ID\":\"" ++ (id ++ (codes "\",\"IsFinal\":" ++ (f ++ (codes ",\"IsPartial\":" ++ x))))) (append_assoc r (codes ",\"MetaData\":") rest))

whole_upload : (id : List ℕ) (kind : Kind) (p q : Data) (offset : ℕ) (length : Option ℕ) → codes "{\"ID\":" ++ (compact_text (string id) ++ (codes ",\"IsFinal\":" ++ (compact_text (boolean (is_final kind)) ++ (codes ",\"IsPartial\":" ++ (compact_text (boolean (is_partial kind)) ++ (codes ",\"MetaData\":" ++ upload_end p offset q length)))))) ≡ compact_text (upload_data id kind p q offset length)
unfolding serde_json_on_literals
whole_upload id kind p q offset length = refl

-- what a text is written as has its quotes before and after it
in_quotes : (k s rest : List ℕ) → escape k ≡ s → 34 ∷ (s ++ 34 ∷ rest) ≡ quoted k ++ rest
in_quotes k s rest is = ap (λ x. 34 ∷ (x ++ 34 ∷ rest)) (sym is) ∙ ap (λ x. 34 ∷ x) (sym (append_assoc (escape k) (34 ∷ []) rest))

pub upload_written : (id : List ℕ) (kind : Kind) (p q : Data) (offset : ℕ) (length : Option ℕ) → escape id ≡ id → upload_begin id kind ++ upload_end p offset q length ≡ compact_text (upload_data id kind p q offset length)
upload_written id kind p q offset length plain =
    let f = compact_text (boolean (is_final kind)) in
    let r = compact_text (boolean (is_partial kind)) in
    let rest = upload_end p offset q length in
    begin_joined id f r rest
    ∙ (ap (λ x. codes "{\"ID\":" ++ x) (in_quotes id id (codes ",\"IsFinal\":" ++ (f ++ (codes ",\"IsPartial\":" ++ (r ++ (codes ",\"MetaData\":" ++ rest))))) plain)
    ∙ whole_upload id kind p q offset length)

-- what is written in parts after a text
pub three_parts : (t a b c : List ℕ) → ((t ++ a) ++ b) ++ c ≡ t ++ (a ++ (b ++ c))
three_parts t a b c = append_assoc (t ++ a) b c ∙ append_assoc t a (b ++ c)

-- what is pushed is there unless memory ran out
pub on_pushed : {T E : Type 0} (r : Result T E) (Q : Type 0) (before s now : List ℕ) → now ≡ (if is_ok r then before ++ s else before) → (now ≡ before ++ s → Q) → OnOk r Q
on_pushed (Ok x) Q before s now is f = f is
on_pushed (Err e) Q before s now is f = tt

-- ---- plain texts

plain_byte : (x : ℕ) → is_plain x ≡ true → escape_byte x ≡ x ∷ []
plain_byte x h = letter_is_plain x (grind (arith, h)) (grind (arith, h)) (grind (arith, h)) (grind (arith, h)) (grind (arith, h)) (grind (arith, h)) (grind (arith, h)) (grind (arith, h))

plain_bytes : (s : List ℕ) → list_all is_plain s ≡ true → escape s ≡ s
plain_bytes [] h = refl
plain_bytes (x ∷ s) h =
    let parts = and_parts (is_plain x) (list_all is_plain s) h in
    ap (λ y. y ++ escape s) (plain_byte x parts.0) ∙ ap (λ y. x ∷ y) (plain_bytes s parts.1)

-- UTF-8 without what is escaped stands as it is
pub plain_text_stands : (s : List ℕ) → IsUtf8 s → list_all is_plain s ≡ true → escape (utf8_lossy s) ≡ s
plain_text_stands s utf8 h = ap escape (utf8_lossy-IsUtf8 s utf8) ∙ plain_bytes s h

-- ---- metadata and parts

put_pairs_have_no_float : (pairs : List (List ℕ × List ℕ)) (ms : Members) → members_have_float ms ≡ false → members_have_float (put_pairs pairs ms) ≡ false
put_pairs_have_no_float [] ms h = h
put_pairs_have_no_float (pair ∷ pairs) ms h = put_pairs_have_no_float pairs (put (utf8_lossy pair.0) (string (utf8_lossy pair.1)) ms) (put_has_no_float (utf8_lossy pair.0) (string (utf8_lossy pair.1)) ms refl h)

pub metadata_has_no_float : (pairs : List (List ℕ × List ℕ)) → has_float (metadata pairs) ≡ false
metadata_has_no_float pairs = put_pairs_have_no_float pairs no_members refl

ids_have_no_float : (ids : List ℕ) → items_have_float (items_of (map id_string ids)) ≡ false
ids_have_no_float [] = refl
ids_have_no_float (id ∷ ids) = ids_have_no_float ids

parts_in_have_no_float : (said : Option Concat) → has_float (parts_in said) ≡ false
parts_in_have_no_float None = refl
parts_in_have_no_float (Some (Plain, parts)) = refl
parts_in_have_no_float (Some (Partial, parts)) = refl
parts_in_have_no_float (Some (Final, parts)) = ids_have_no_float parts

pub parts_have_no_float : (text : Option (List ℕ)) (parts : Data) → AreParts text parts → has_float parts ≡ false
parts_have_no_float text parts are = ap has_float are.2 ∙ parts_in_have_no_float are.0
