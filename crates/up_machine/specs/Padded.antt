-- How a reason is kept: its bytes, followed by zeros.
use Rattle.std.proofs.Common.{◌≡◌, ℕ, ◌-◌, ◌≤◌, true, List, ◌++◌, length, take, drop, replicate, sym, ap, ◌∙◌, subst}
use Rattle.std.proofs.lemmas.List.{length-take-le, take-append-drop}
use Rattle.up_machine.specs.Reasons.{is_reason}
use Rattle.up_machine.specs.declared.reason.Reason.TheInside.{Inside}

abbrev pub padded : List ℕ → Inside
padded text = record { bytes = text ++ replicate (80 - length text) 0; count = length text }

pub record IsPadded (a : Inside) : Type 0 where
  pub size : length a.bytes ≡ 80
  pub within : a.count ≤ 80
  pub zeros : drop a.count a.bytes ≡ replicate (80 - a.count) 0
  pub text : is_reason (take a.count a.bytes) ≡ true

-- the text determines the fields
pub padded_back : (a : Inside) → IsPadded a → padded (take a.count a.bytes) ≡ a
padded_back a kept =
    let all = subst (λ n. a.count ≤ n) (sym kept.size) kept.within in
    let size = length-take-le a.count a.bytes all in
    let rest = ap (λ n. replicate (80 - n) 0) size ∙ sym kept.zeros in
    let bytes = ap (λ t. take a.count a.bytes ++ t) rest ∙ take-append-drop a.count a.bytes in
    ap (λ bs. record { bytes = bs; count = length (take a.count a.bytes) }) bytes ∙ ap (λ n. record { bytes = a.bytes; count = n }) size
