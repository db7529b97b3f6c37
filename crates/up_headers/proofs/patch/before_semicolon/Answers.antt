use Rattle.std.proofs.Common.{◌≡◌, ◌==◌, ◌<◌, ◌≢◌, ℕ, get_or, length, take, sym, ap, ◌∙◌, rules, arith}
use Rattle.std.proofs.lemmas.Bool.{eq-eqb, ne_eqb}
use Rattle.std.proofs.lemmas.List.Sums.{position_or_len_is}
use Rattle.std.proofs.lemmas.List.{take_all}
use Rattle.up_headers.proofs.patch.before_semicolon.Goals as goal

pub returns-in-Some : goal.returns-in-Some
returns-in-Some c =
    let text = c.args.text.now in
    let end = c.in-Some.end in
    let inside : end < length text = search rules in
    let before : (k : ℕ) → k < end → get_or text k 0 ≢ 59 = search rules in
    let found : get_or text end 0 ≡ 59 = search rules in
    sym (ap (λ n. take n text) (position_or_len_is (λ b. b == 59) text end 0 (omega arith) (λ k below. ne_eqb _ 59 (before k below)) (λ _. eq-eqb _ 59 found)))

pub returns-in-None : goal.returns-in-None
returns-in-None c =
    let text = c.args.text.now in
    let none : (k : ℕ) → k < length text → get_or text k 0 ≢ 59 = search rules in
    sym (ap (λ n. take n text) (position_or_len_is (λ b. b == 59) text (length text) 0 (omega arith) (λ k below. ne_eqb _ 59 (none k below)) (λ more. absurd (omega arith))) ∙ take_all _ text (omega arith))
