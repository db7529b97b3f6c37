-- Where the pieces between commas end.
use Rattle.std.proofs.Common.{◌≡◌, ℕ, zero, suc, ◌<◌, ◌≢◌, Bool, true, false, cond, ◌||◌, List, [], ◌∷◌, length, get_or, take, drop, refl, ap, ◌∙◌, arith}
use Rattle.std.specs.List.{list_any}
use Rattle.std.proofs.lemmas.Bool.{eq-eqb, ne_eqb}
use Rattle.httparse.specs.Grammar.{trim_ows}
use Rattle.up_message.specs.Fields.{cons_first, split_commas, same_name}
use Rattle.up_wire.specs.Framing.{has_token}

-- the first piece ends at the first comma
split_commas_at : (xs : List ℕ) (i : ℕ) → i < length xs → get_or xs i 0 ≡ 44 → ((k : ℕ) → k < i → get_or xs k 0 ≢ 44) → split_commas xs ≡ take i xs ∷ split_commas (drop (suc i) xs)
split_commas_at [] i inside comma before = absurd (omega arith)
split_commas_at (b ∷ bs) zero inside comma before =
    ap (λ t. cond t ([] ∷ split_commas bs) (cons_first b (split_commas bs))) (eq-eqb b 44 comma)
split_commas_at (b ∷ bs) (suc i) inside comma before =
    ap (λ t. cond t ([] ∷ split_commas bs) (cons_first b (split_commas bs))) (ne_eqb b 44 (before 0 (omega arith)))
    ∙ ap (cons_first b) (split_commas_at bs i (omega arith) comma (λ k below. before (suc k) (omega arith)))

split_commas_whole : (xs : List ℕ) → ((k : ℕ) → k < length xs → get_or xs k 0 ≢ 44) → split_commas xs ≡ xs ∷ []
split_commas_whole [] none = refl
split_commas_whole (b ∷ bs) none =
    ap (λ t. cond t ([] ∷ split_commas bs) (cons_first b (split_commas bs))) (ne_eqb b 44 (none 0 (omega arith)))
    ∙ ap (cons_first b) (split_commas_whole bs (λ k below. none (suc k) (omega arith)))

or-false : (b : Bool) → (b || false) ≡ b
or-false true = refl
or-false false = refl

pub token_at : (token xs : List ℕ) (i : ℕ) → i < length xs → get_or xs i 0 ≡ 44 → ((k : ℕ) → k < i → get_or xs k 0 ≢ 44)
    → has_token token xs ≡ (same_name (trim_ows (take i xs)) token || has_token token (drop (suc i) xs))
token_at token xs i inside comma before = ap (list_any (λ piece. same_name (trim_ows piece) token)) (split_commas_at xs i inside comma before)

pub token_whole : (token xs : List ℕ) → ((k : ℕ) → k < length xs → get_or xs k 0 ≢ 44) → has_token token xs ≡ same_name (trim_ows xs) token
token_whole token xs none =
    ap (list_any (λ piece. same_name (trim_ows piece) token)) (split_commas_whole xs none) ∙ or-false (same_name (trim_ows xs) token)
