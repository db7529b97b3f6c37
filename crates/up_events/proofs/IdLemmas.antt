-- One more digit of an id's text, as it is written and as it is read.
use Rattle.std.proofs.Common.{◌≡◌, ℕ, ◌+◌, ◌*◌, ◌^◌, ◌-◌, ◌<◌, ◌≤◌, ◌/◌, ◌%◌, List, [], ◌∷◌, ◌++◌, length, drop, take, get_or, suc, zero, refl, sym, ap, ◌∙◌, inl, inr, append_assoc, slice_set, arith, lit<}
use Rattle.std.proofs.lemmas.List.{take_more, length-append}
use Rattle.std.proofs.lemmas.Bool.{cases_lt}
use Rattle.std.proofs.Math.ListN.{get_or-append}
use Rattle.std.proofs.Math.Seq.{get_or-append_seam}
use Rattle.std.proofs.Math.Nat.{pow-suc}
use Rattle.std.proofs.lemmas.Bool.Decides.{nat_tests}
use Rattle.std.proofs.lemmas.Str.{IsAscii-append}
use Rattle.std.proofs.lemmas.Str.Ascii.{IsAscii-nil}
use Rattle.std.specs.Str.{IsAscii}
use Rattle.up_events.specs.IdText.{hex_digits, hex_digit}

drop-set : (text : List ℕ) (i d : ℕ) → i < length text → drop i (slice_set text i d) ≡ d ∷ drop (suc i) text
drop-set [] i d h = absurd (omega arith)
drop-set (x ∷ text) zero d h = refl
drop-set (x ∷ text) (suc i) d h = drop-set text i d (omega arith)

pub digit_put : (text : List ℕ) (i n : ℕ) → i < length text → hex_digits i (n / 16) ++ drop i (slice_set text i (hex_digit (n % 16))) ≡ hex_digits (suc i) n ++ drop (suc i) text
unfolding hex_digits
digit_put text i n h = ap (λ l. hex_digits i (n / 16) ++ l) (drop-set text i (hex_digit (n % 16)) h) ∙ sym (append_assoc (hex_digits i (n / 16)) (hex_digit (n % 16) ∷ []) (drop (suc i) text))

pub no_digits : (n : ℕ) (text : List ℕ) → hex_digits 0 n ++ drop 0 text ≡ text
unfolding hex_digits
no_digits n text = refl

pub next_digit : (text : List ℕ) (places n d : ℕ) → 0 < places → places ≤ length text → d ≡ hex_digit (n % 16) → hex_digits (places - 1) (n / 16) ++ drop (places - 1) (slice_set text (places - 1) d) ≡ hex_digits places n ++ drop places text
next_digit text zero n d some within is = absurd (omega arith)
next_digit text (suc i) n d some within is = let e : suc i - 1 ≡ i = omega arith in rw (e, is) (digit_put text i n (omega arith))

-- ---- the text is ASCII

ascii_digit : (d : ℕ) → d < 16 → IsAscii (hex_digit d ∷ [])
ascii_digit d small zero = grind (arith, nat_tests)
ascii_digit d small (suc i) = lit< tt

pub ascii_digits : (places n : ℕ) → IsAscii (hex_digits places n)
unfolding hex_digits
ascii_digits zero n = IsAscii-nil
ascii_digits (suc places) n = IsAscii-append (hex_digits places (n / 16)) (hex_digit (n % 16) ∷ []) (ascii_digits places (n / 16)) (ascii_digit (n % 16) (omega arith))

-- ---- reading a text

pub digits_length : (places n : ℕ) → length (hex_digits places n) ≡ places
unfolding hex_digits
digits_length zero n = refl
digits_length (suc places) n = omega (arith, length-append (hex_digits places (n / 16)) (hex_digit (n % 16) ∷ []), digits_length places (n / 16))

pub digit_at : (places n i : ℕ) → i < places → (d : ℕ) × (d < 16) × (get_or (hex_digits places n) i 0 ≡ hex_digit d)
unfolding hex_digits
digit_at zero n i h = absurd (omega arith)
digit_at (suc places) n i h = elim (cases_lt i places) [
  | inl below ↦
      let before = digit_at places (n / 16) i below in
      let inside : i < length (hex_digits places (n / 16)) = omega (arith, digits_length places (n / 16)) in
      (before.0, before.1, get_or-append (hex_digits places (n / 16)) (hex_digit (n % 16) ∷ []) 0 i inside ∙ before.2)
  | inr above ↦
      let last : i ≡ length (hex_digits places (n / 16)) = omega (arith, digits_length places (n / 16)) in
      let small : n % 16 < 16 = omega arith in
      (n % 16, small, ap (λ j. get_or (hex_digits places (n / 16) ++ hex_digit (n % 16) ∷ []) j 0) last ∙ get_or-append_seam (hex_digits places (n / 16)) (hex_digit (n % 16)) [] 0)
]

pub digit_read : (text : List ℕ) (i n d : ℕ) → i < length text → d < 16 → get_or text i 0 ≡ hex_digit d → take i text ≡ hex_digits i n → take (i + 1) text ≡ hex_digits (i + 1) (n * 16 + d)
unfolding hex_digits
digit_read text i n d inside small is before =
    let one : i + 1 ≡ suc i = omega arith in
    let high : (n * 16 + d) / 16 ≡ n = omega arith in
    let low : (n * 16 + d) % 16 ≡ d = omega arith in
    take_more text i 0 inside ∙ ap (λ l. l ++ get_or text i 0 ∷ []) before ∙ ap (λ b. hex_digits i n ++ b ∷ []) is
    ∙ sym (ap (λ p. hex_digits p (n * 16 + d)) one ∙ ap (λ m. hex_digits i m ++ hex_digit ((n * 16 + d) % 16) ∷ []) high ∙ ap (λ m. hex_digits i n ++ hex_digit m ∷ []) low)

pub no_digit_read : [] ≡ hex_digits 0 0
unfolding hex_digits
no_digit_read = refl

pub power_step : (i n d : ℕ) → n < 16 ^ i → d < 16 → n * 16 + d < 16 ^ (i + 1)
power_step i n d small digit = let one : i + 1 ≡ suc i = omega arith in rw (one, pow-suc) (omega arith)

powers_rise : (i j : ℕ) → i ≤ j → 16 ^ i ≤ 16 ^ j
powers_rise i zero le = let e : i ≡ 0 = omega arith in rw e (omega arith)
powers_rise i (suc j) le = elim (cases_lt i (suc j)) [
  | inl below ↦ let before = powers_rise i j (omega arith) in rw pow-suc (omega (arith, before))
  | inr same ↦ let e : i ≡ suc j = omega arith in rw e (omega arith)
]

pub power_within : (i n : ℕ) → i < 32 → n < 16 ^ i → n * 16 + 15 < 2 ^ 128
power_within i n small below =
    let most : 16 ^ (i + 1) ≤ 16 ^ 32 = powers_rise (i + 1) 32 (omega arith) in
    let last = power_step i n 15 below (lit< tt) in
    omega (arith, most, last)
