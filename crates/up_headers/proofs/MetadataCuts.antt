-- Every part of a metadata text is spaces, what stands for a key, a gap, what stands for a value, and spaces.
use Rattle.std.proofs.Common.{◌≡◌, ℕ, ◌==◌, Bool, true, false, List, [], ◌∷◌, ◌++◌, length, reverse, sym, refl, ap, subst, ◌∙◌, arith}
use Rattle.std.specs.List.{list_all}
use Rattle.std.proofs.lemmas.List.{reverse-append, reverse-reverse}
use Rattle.std.proofs.lemmas.Bool.{eq-eqb}
use Rattle.up_headers.specs.Reading.{key_of, value_text}
use Rattle.up_headers.specs.Words.{is_space, is_no_space, AreSpaces, EndsWord, skip_spaces, from_space, trim_end_spaces}
use Rattle.up_headers.proofs.MetadataTexts.{split_at, drop_first}
use Rattle.up_headers.proofs.WordLemmas.{first_space, taken}
use Rattle.up_headers.proofs.MetadataParts.{all_reverse}

-- a part, as the reading cuts it
pub record Parted (part : List ℕ) : Type 0 where
  pub left : List ℕ
  pub key : List ℕ
  pub gap : List ℕ
  pub right : List ℕ
  pub rest : List ℕ
  pub spaces : AreSpaces left × AreSpaces gap × AreSpaces right
  pub keyed : list_all is_no_space key ≡ true
  pub is_key : key_of part ≡ key
  pub is_rest : rest ≡ gap ++ (value_text part ++ right)
  pub spelled : part ≡ left ++ (key ++ rest)
  pub apart : length gap ≡ 0 → value_text part ≡ []

-- without a gap nothing stands behind it
no_value : (rest behind gap : List ℕ) → EndsWord rest → rest ≡ gap ++ behind → behind ≡ skip_spaces rest → length gap ≡ 0 → behind ≡ []
no_value rest behind (g ∷ gap) ends whole from none = absurd (omega arith)
no_value rest [] [] ends whole from none = refl
no_value rest (b ∷ bs) [] ends whole from none =
    let first = drop_first is_space rest b bs (sym from) in
    let space : b ≡ 32 = subst EndsWord whole ends in
    absurd (absurd_at (b == 32) first (eq-eqb b 32 space))
  where
    absurd_at : (t : Bool) → t ≡ false → t ≡ true → ⊥
    absurd_at true a b = cc
    absurd_at false a b = cc

-- every part is so
pub parted : (part : List ℕ) → Parted part
parted part =
    let s = split_at is_space part in
    let t = split_at is_no_space (skip_spaces part) in
    let u = split_at is_space (from_space (skip_spaces part)) in
    let behind : List ℕ = skip_spaces (from_space (skip_spaces part)) in
    let v = split_at is_space (reverse behind) in
    let ends = first_space (skip_spaces part) (from_space (skip_spaces part)) refl in
    record {
      left = s.front;
      key = t.front;
      gap = u.front;
      right = reverse v.front;
      rest = from_space (skip_spaces part);
      spaces = (s.pass, u.pass, all_reverse is_space v.front v.pass);
      keyed = t.pass;
      is_key = taken (skip_spaces part) t.front t.whole;
      is_rest = u.whole ∙ ap (λ b. u.front ++ b) (sym (reverse-reverse behind) ∙ ap reverse v.whole ∙ reverse-append v.front (skip_spaces (reverse behind)));
      spelled = s.whole ∙ ap (λ b. s.front ++ b) t.whole;
      apart = λ none. ap trim_end_spaces (no_value (from_space (skip_spaces part)) behind u.front ends u.whole refl none);
    }
