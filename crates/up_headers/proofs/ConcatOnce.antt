-- An `Upload-Concat` says at most one thing.
use Rattle.std.proofs.Common.{◌≡◌, ℕ, ◌*◌, ◌^◌, ◌<◌, ◌/◌, ◌%◌, zero, suc, List, [], ◌∷◌, ◌++◌, take, drop, get_or, sym, refl, ap, subst, ◌∙◌, arith, inl, inr}
use Rattle.std.proofs.lemmas.Bool.Decides.{nat_tests}
use Rattle.std.proofs.Math.Seq.{take-append_seam, get_or-append_seam}
use Rattle.std.proofs.Math.Nat.{pow-suc}
use Rattle.up_events.specs.declared.event.Kind.TheVariants.{Plain, Partial, Final}
use Rattle.up_events.specs.IdText.{hex_digit, hex_digits}
use Rattle.up_events.proofs.IdLemmas.{digits_length}
use Rattle.up_headers.specs.declared.place.Place.TheVariants.{Upload}
use Rattle.up_headers.specs.Places.{IsAt}
use Rattle.up_headers.specs.Concat.{ListsUrls, NameUploads, ReadsParts, AreIds, ConcatReadsOnce}
use Rattle.up_headers.proofs.ConcatLemmas.{no_url, first_only, same_path}

-- ---- the digits of an id

digit_once : (d e : ℕ) → d < 16 → e < 16 → hex_digit d ≡ hex_digit e → d ≡ e
digit_once d e small few same = grind (arith, nat_tests)

-- the digits before the last
before_last : (places n : ℕ) → take places (hex_digits places (n / 16) ++ hex_digit (n % 16) ∷ []) ≡ hex_digits places (n / 16)
before_last places n =
    ap (λ p. take p (hex_digits places (n / 16) ++ hex_digit (n % 16) ∷ [])) (sym (digits_length places (n / 16)))
    ∙ take-append_seam (hex_digits places (n / 16)) (hex_digit (n % 16) ∷ [])

-- the last
last_digit : (places n : ℕ) → get_or (hex_digits places (n / 16) ++ hex_digit (n % 16) ∷ []) places 0 ≡ hex_digit (n % 16)
last_digit places n =
    ap (λ p. get_or (hex_digits places (n / 16) ++ hex_digit (n % 16) ∷ []) p 0) (sym (digits_length places (n / 16)))
    ∙ get_or-append_seam (hex_digits places (n / 16)) (hex_digit (n % 16)) [] 0

-- so many digits are those of one number
digits_once : (places n m : ℕ) → n < 16 ^ places → m < 16 ^ places → hex_digits places n ≡ hex_digits places m → n ≡ m
unfolding hex_digits
digits_once zero n m below under same = omega (arith, below, under)
digits_once (suc places) n m below under same =
    let most : 16 ^ (suc places) ≡ 16 ^ places * 16 = pow-suc 16 places in
    let high = digits_once places (n / 16) (m / 16) (omega (arith, most, below)) (omega (arith, most, under))
    (sym (before_last places n) ∙ ap (take places) same ∙ before_last places m) in
    let low = digit_once (n % 16) (m % 16) (omega arith) (omega arith)
    (sym (last_digit places n) ∙ ap (λ l. get_or l places 0) same ∙ last_digit places m) in
    omega (arith, high, low)

-- ---- the uploads of URLs

-- a URL is one upload's
upload_once : (url : List ℕ) (id other : ℕ) → id < 2 ^ 128 → other < 2 ^ 128 → IsAt url (Upload id) → IsAt url (Upload other) → id ≡ other
upload_once url id other small few (inl one) (inl two) =
    let same = sym one.2 ∙ same_path url one.0 two.0 one.1 two.1 ∙ two.2 in
    digits_once 32 id other (omega arith) (omega arith) (ap (drop 7) same)
upload_once url id other small few (inr none) two = absurd (let e = none.0 in cc e)
upload_once url id other small few one (inr none) = absurd (let e = none.0 in cc e)

-- and so are URLs
uploads_once : (urls : List (List ℕ)) (ids others : List ℕ) → AreIds ids → AreIds others → NameUploads urls ids → NameUploads urls others → ids ≡ others
uploads_once [] [] [] few small names also = refl
uploads_once [] [] (other ∷ others) few small names also = absurd also
uploads_once [] (id ∷ ids) others few small names also = absurd names
uploads_once (url ∷ urls) [] others few small names also = absurd names
uploads_once (url ∷ urls) (id ∷ ids) [] few small names also = absurd also
uploads_once (url ∷ urls) (id ∷ ids) (other ∷ others) few small names also =
    ap (λ i. i ∷ ids) (upload_once url id other few.0 small.0 names.0 also.0)
    ∙ ap (λ l. other ∷ l) (uploads_once urls ids others few.1 small.1 names.1 also.1)

-- a text lists its URLs once
urls_once : (text : List ℕ) (urls others : List (List ℕ)) → ListsUrls text urls → ListsUrls text others → urls ≡ others
urls_once text [] [] lists also = refl
urls_once text [] (other ∷ others) lists also = absurd (no_url text other also.0 lists also.1)
urls_once text (url ∷ urls) others lists also =
    let f = first_only text url lists.0 others lists.1 also in
    ap (λ us. url ∷ us) (urls_once lists.0 urls f.0 lists.2 f.2) ∙ sym f.1

-- a list names its parts once
parts_once : (list ids others : List ℕ) → AreIds ids → AreIds others → ReadsParts list ids → ReadsParts list others → ids ≡ others
parts_once list ids others few small reads also =
    let same = urls_once list also.0 reads.0 also.1 reads.1 in
    uploads_once reads.0 ids others few small reads.2 (subst (λ us. NameUploads us others) same also.2)

-- ---- the text

first_byte : (text one other : List ℕ) → text ≡ one → text ≡ other → get_or one 0 0 ≡ get_or other 0 0
first_byte text one other is also = ap (λ t. get_or t 0 0) (sym is ∙ also)

pub concat_once : ConcatReadsOnce
concat_once text Plain parts Plain others few small reads also = (refl, reads.1 ∙ sym also.1)
concat_once text Plain parts Partial others few small reads also = absurd (let e = first_byte text [] _ reads.0 also.0 in omega (arith, e))
concat_once text Plain parts Final others few small reads also = absurd (let e = first_byte text [] _ reads.0 also.1 in omega (arith, e))
concat_once text Partial parts Plain others few small reads also = absurd (let e = first_byte text _ [] reads.0 also.0 in omega (arith, e))
concat_once text Partial parts Partial others few small reads also = (refl, reads.1 ∙ sym also.1)
concat_once text Partial parts Final others few small reads also = absurd (let e = first_byte text _ _ reads.0 also.1 in omega (arith, e))
concat_once text Final parts Plain others few small reads also = absurd (let e = first_byte text _ [] reads.1 also.0 in omega (arith, e))
concat_once text Final parts Partial others few small reads also = absurd (let e = first_byte text _ _ reads.1 also.0 in omega (arith, e))
concat_once text Final parts Final others few small reads also =
    let same = ap (drop 6) (sym reads.1 ∙ also.1) in
    (refl, parts_once also.0 parts others few small (subst (λ l. ReadsParts l parts) same reads.2) also.2)
