-- Words between spaces: the relation, and the functions that find them.
use Rattle.std.proofs.Common.{◌≡◌, ℕ, ◌-◌, ◌<◌, ◌==◌, Bool, true, false, not, List, [], ◌∷◌, ◌++◌, length, take, sym, refl, ap, subst, ◌∙◌, arith}
use Rattle.std.specs.List.{list_all}
use Rattle.std.proofs.lemmas.List.{length-append, append-nil}
use Rattle.std.proofs.lemmas.Bool.{eqb-true}
use Rattle.std.proofs.Math.Seq.{take-append_seam}
use Rattle.up_headers.specs.Words.{is_space, is_no_space, AreSpaces, IsWord, EndsWord, BeginsWith, skip_spaces, from_space, until_space, first_word, behind_word}
use Rattle.up_headers.proofs.MetadataTexts.{split_at, drop_through, drop_none, drop_first, all_first, all_append, not_true}

-- a word has no spaces to skip
pub word_stays : (word text : List ℕ) → IsWord word → skip_spaces (word ++ text) ≡ word ++ text
word_stays [] text is = absurd (omega arith)
word_stays (b ∷ bs) text is = drop_none is_space b (bs ++ text) (not_true (b == 32) (all_first is_no_space b bs is.1))

-- of spaces nothing is left
pub all_spaces : (text : List ℕ) → AreSpaces text → skip_spaces text ≡ []
all_spaces text spaces = ap skip_spaces (sym (append-nil text)) ∙ drop_through is_space text [] spaces

-- a word is found up to the space behind it
pub word_taken : (word text : List ℕ) → from_space (word ++ text) ≡ text → until_space (word ++ text) ≡ word
word_taken word text found =
    let n : length (word ++ text) - length (from_space (word ++ text)) ≡ length word = omega (arith, ap length found, length-append word text) in
    ap (λ n. take n (word ++ text)) n ∙ take-append_seam word text

-- what ends a word begins with a space
ends_stay : (rest : List ℕ) → EndsWord rest → from_space rest ≡ rest
ends_stay [] ends = refl
ends_stay (b ∷ bs) ends = drop_none is_no_space b bs (ap is_no_space ends)

-- a text that begins with a word: that word is the first, and that rest stands behind it
pub word_found : (text word rest : List ℕ) → BeginsWith text word rest → (first_word text ≡ word) × (behind_word text ≡ rest)
word_found text word rest begins =
    let skipped : skip_spaces text ≡ word ++ rest =
    ap skip_spaces begins.spelled ∙ drop_through is_space begins.left (word ++ rest) begins.spaces ∙ word_stays word rest begins.is_word in
    let found : from_space (word ++ rest) ≡ rest = drop_through is_no_space word rest begins.is_word.1 ∙ ends_stay rest begins.ends in
    (ap until_space skipped ∙ word_taken word rest found, ap from_space skipped ∙ found)

-- spaces have no first word
pub no_first : (text : List ℕ) → AreSpaces text → first_word text ≡ []
no_first text spaces = ap until_space (all_spaces text spaces)

-- what stands behind a word
pub first_space : (text rest : List ℕ) → rest ≡ from_space text → EndsWord rest
first_space text [] is = tt
first_space text (b ∷ bs) is = eqb-true b 32 (not_false (b == 32) (drop_first is_no_space text b bs (sym is)))
  where
    not_false : (t : Bool) → not t ≡ false → t ≡ true
    not_false true is = refl
    not_false false is = absurd (cc)

-- what stands behind the spaces begins with a word
no_rest : (text skipped word rest : List ℕ) → skipped ≡ skip_spaces text → skipped ≡ word ++ rest → rest ≡ from_space skipped → length word ≡ 0 → rest ≡ []
no_rest text skipped (k ∷ word) rest is whole from none = absurd (omega arith)
no_rest text skipped [] [] is whole from none = refl
no_rest text skipped [] (b ∷ bs) is whole from none =
    let first : is_space b ≡ false = drop_first is_space text b bs (sym is ∙ whole) in
    let other = drop_first is_no_space skipped b bs (sym from) in
    absurd (never (b == 32) first other)
  where
    never : (t : Bool) → t ≡ false → not t ≡ false → ⊥
    never true a b = cc
    never false a b = cc

-- the first word of a text, as a front of what is left behind the spaces
pub taken : (skipped front : List ℕ) → skipped ≡ front ++ from_space skipped → until_space skipped ≡ front
taken skipped front whole =
    let n : length skipped - length (from_space skipped) ≡ length front = omega (arith, ap length whole, length-append front (from_space skipped)) in
    ap (λ n. take n skipped) n ∙ ap (take (length front)) whole ∙ take-append_seam front (from_space skipped)

-- a text with a first word begins with it
pub begins_with : (text : List ℕ) → 0 < length (first_word text) → BeginsWith text (first_word text) (behind_word text)
begins_with text some =
    let s = split_at is_space text in
    let t = split_at is_no_space (skip_spaces text) in
    let is : first_word text ≡ t.front = taken (skip_spaces text) t.front t.whole in
    record {
      left = s.front;
      spelled = s.whole ∙ ap (λ b. s.front ++ b) t.whole ∙ ap (λ w. s.front ++ (w ++ behind_word text)) (sym is);
      spaces = s.pass;
      is_word = (some, subst (λ w. list_all is_no_space w ≡ true) (sym is) t.pass);
      ends = first_space (skip_spaces text) (behind_word text) refl;
    }

-- a list of no length
nil_of : (xs : List ℕ) → length xs ≡ 0 → xs ≡ []
nil_of [] e = refl
nil_of (x ∷ xs) e = absurd (omega arith)

-- a text without a first word is spaces
pub no_word : (text : List ℕ) → length (first_word text) ≡ 0 → AreSpaces text
no_word text none =
    let s = split_at is_space text in
    let t = split_at is_no_space (skip_spaces text) in
    let empty : length t.front ≡ 0 = sym (ap length (taken (skip_spaces text) t.front t.whole)) ∙ none in
    let left : skip_spaces text ≡ [] =
    t.whole ∙ ap (λ w. w ++ behind_word text) (nil_of t.front empty) ∙ no_rest text (skip_spaces text) t.front (behind_word text) refl t.whole refl empty in
    subst AreSpaces (sym (s.whole ∙ ap (λ b. s.front ++ b) left)) (all_append is_space s.front [] s.pass refl)
