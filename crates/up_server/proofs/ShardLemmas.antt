-- The digits at the front of an id's text.
use Rattle.std.proofs.Common.{◌≡◌, ℕ, ◌+◌, ◌/◌, ◌%◌, ◌^◌, ◌≤◌, [], ◌∷◌, length, take, suc, zero, refl, sym, ap, ◌∙◌, arith}
use Rattle.std.proofs.lemmas.List.{take-append-le}
use Rattle.std.proofs.Math.Seq.{take-length}
use Rattle.std.proofs.Math.Nat.{div-div-eq-div-mul, pow-succ'}
use Rattle.up_events.specs.IdText.{hex_digit, hex_digits}
use Rattle.up_events.proofs.IdLemmas.{digits_length}
use Rattle.up_server.specs.Shards.{TextsTellTheirByte}

-- the first of all the digits of a number are those of the number that is left without the others
fronts : (more places all n : ℕ) → all ≡ places + more → take places (hex_digits all n) ≡ hex_digits places (n / 16 ^ more)
unfolding hex_digits
fronts zero places all n is =
    let same : all ≡ places = omega arith in
    let whole : n / 16 ^ 0 ≡ n = omega arith in
    ap (λ count. take places (hex_digits count n)) same
    ∙ ap (λ count. take count (hex_digits places n)) (sym (digits_length places n))
    ∙ take-length (hex_digits places n)
    ∙ ap (hex_digits places) (sym whole)
fronts (suc more) places zero n is = absurd (omega arith)
fronts (suc more) places (suc all) n is =
    let before : all ≡ places + more = omega arith in
    let inside : places ≤ length (hex_digits all (n / 16)) = omega (arith, digits_length all (n / 16)) in
    take-append-le places (hex_digits all (n / 16)) (hex_digit (n % 16) ∷ []) inside
    ∙ fronts more places all (n / 16) before
    ∙ ap (hex_digits places) (div-div-eq-div-mul n 16 (16 ^ more) ∙ ap (λ power. n / power) (sym (pow-succ' 16 more)))

pub texts_tell : TextsTellTheirByte
texts_tell id = fronts 30 2 32 id refl
