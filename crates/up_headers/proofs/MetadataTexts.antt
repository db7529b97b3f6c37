-- Facts on texts: tests of each byte, blanks at the ends, parts between commas.
use Rattle.std.proofs.Common.{◌≡◌, ℕ, zero, suc, ◌<◌, ◌≤◌, ◌≢◌, ◌==◌, Bool, true, false, cond, not, ◌&&◌, List, [], ◌∷◌, ◌++◌, length, get_or, take, drop, sym, refl, ap, ◌∙◌, arith}
use Rattle.std.specs.List.{list_all}
use Rattle.std.proofs.lemmas.Bool.{eq-eqb, eqb-true, ne_eqb}
use Rattle.std.proofs.lemmas.List.{length-append}
use Rattle.up_message.specs.Fields.{cons_first, split_commas}
use Rattle.up_headers.specs.Metadata.{is_no_comma, HasNoComma, HaveNoCommas, with_commas}
use Rattle.up_headers.specs.Words.{drop_while}

-- what a text's first bytes that pass are
pub record Split (test : ℕ → Bool) (text : List ℕ) : Type 0 where
  pub front : List ℕ
  pub whole : text ≡ front ++ drop_while test text
  pub pass : list_all test front ≡ true

-- one byte more
split_more : (test : ℕ → Bool) (b : ℕ) (bs : List ℕ) (t : Bool) → test b ≡ t → Split test bs → Split test (b ∷ bs)
split_more test b bs true is more =
    record {
      front = b ∷ more.front;
      whole = ap (λ xs. b ∷ xs) more.whole ∙ ap (λ t. b ∷ more.front ++ cond t (drop_while test bs) (b ∷ bs)) (sym is);
      pass = ap (λ t. t && list_all test more.front) is ∙ more.pass;
    }
split_more test b bs false is more = record { front = []; whole = ap (λ t. cond t (drop_while test bs) (b ∷ bs)) (sym is); pass = refl }

-- every text splits so
pub split_at : (test : ℕ → Bool) (text : List ℕ) → Split test text
split_at test [] = record { front = []; whole = refl; pass = refl }
split_at test (b ∷ bs) = split_more test b bs (test b) refl (split_at test bs)

-- what is left is no longer
pub drop_while-le : (test : ℕ → Bool) (text : List ℕ) → length (drop_while test text) ≤ length text
drop_while-le test text = let s = split_at test text in omega (arith, ap length s.whole, length-append s.front (drop_while test text))

-- the first of two tests
and_first : (a b : Bool) → (a && b) ≡ true → a ≡ true
and_first true b e = refl
and_first false b e = e

-- the second
and_second : (a b : Bool) → (a && b) ≡ true → b ≡ true
and_second true b e = e
and_second false b e = absurd (cc)

-- the first byte passes
pub all_first : (test : ℕ → Bool) (b : ℕ) (bs : List ℕ) → list_all test (b ∷ bs) ≡ true → test b ≡ true
all_first test b bs all = and_first (test b) (list_all test bs) all

-- the others pass
pub all_rest : (test : ℕ → Bool) (b : ℕ) (bs : List ℕ) → list_all test (b ∷ bs) ≡ true → list_all test bs ≡ true
all_rest test b bs all = and_second (test b) (list_all test bs) all

-- bytes that pass are dropped
pub drop_through : (test : ℕ → Bool) (front xs : List ℕ) → list_all test front ≡ true → drop_while test (front ++ xs) ≡ drop_while test xs
drop_through test [] xs all = refl
drop_through test (b ∷ bs) xs all =
    ap (λ t. cond t (drop_while test (bs ++ xs)) (b ∷ bs ++ xs)) (all_first test b bs all) ∙ drop_through test bs xs (all_rest test b bs all)

-- a byte that fails stays
pub drop_none : (test : ℕ → Bool) (b : ℕ) (bs : List ℕ) → test b ≡ false → drop_while test (b ∷ bs) ≡ b ∷ bs
drop_none test b bs fails = ap (λ t. cond t (drop_while test bs) (b ∷ bs)) fails

-- nothing that passes stands at the front of what is left
drop_first_by : (test : ℕ → Bool) (x : ℕ) (xs : List ℕ) (b : ℕ) (bs : List ℕ) (t : Bool) → test x ≡ t → (drop_while test xs ≡ b ∷ bs → test b ≡ false) → drop_while test (x ∷ xs) ≡ b ∷ bs → test b ≡ false
drop_first_by test x xs b bs true passes more is = more (ap (λ t. cond t (drop_while test xs) (x ∷ xs)) (sym passes) ∙ is)
drop_first_by test x xs b bs false fails more is =
    let same : x ∷ xs ≡ b ∷ bs = ap (λ t. cond t (drop_while test xs) (x ∷ xs)) (sym fails) ∙ is in
    let first : x ≡ b = cc same in
    ap test (sym first) ∙ fails

-- whatever the text
pub drop_first : (test : ℕ → Bool) (xs : List ℕ) (b : ℕ) (bs : List ℕ) → drop_while test xs ≡ b ∷ bs → test b ≡ false
drop_first test [] b bs is = absurd (cc)
drop_first test (x ∷ xs) b bs is = drop_first_by test x xs b bs (test x) refl (drop_first test xs b bs) is

-- a test that both parts pass
pub all_append : (test : ℕ → Bool) (xs ys : List ℕ) → list_all test xs ≡ true → list_all test ys ≡ true → list_all test (xs ++ ys) ≡ true
all_append test [] ys all more = more
all_append test (x ∷ xs) ys all more = ap (λ t. t && list_all test (xs ++ ys)) (all_first test x xs all) ∙ all_append test xs ys (all_rest test x xs all) more

-- a byte more in the first part, joined
joined_first : (b : ℕ) (parts : List (List ℕ)) → with_commas (cons_first b parts) ≡ b ∷ with_commas parts
joined_first b [] = refl
joined_first b (part ∷ []) = refl
joined_first b (part ∷ next ∷ parts) = refl

-- an empty part in front
joined_none : (parts : List (List ℕ)) → 0 < length parts → with_commas ([] ∷ parts) ≡ 44 ∷ with_commas parts
joined_none [] some = absurd (omega arith)
joined_none (part ∷ parts) some = refl

-- there is a first part
cons_first-some : (b : ℕ) (parts : List (List ℕ)) → 0 < length (cons_first b parts)
cons_first-some b [] = omega arith
cons_first-some b (part ∷ parts) = omega arith

-- by whether a comma comes
split_some_by : (b : ℕ) (parts : List (List ℕ)) (t : Bool) → 0 < length (cond t ([] ∷ parts) (cons_first b parts))
split_some_by b parts true = omega arith
split_some_by b parts false = cons_first-some b parts

-- there is at least one part
pub split_some : (text : List ℕ) → 0 < length (split_commas text)
split_some [] = omega arith
split_some (b ∷ bs) = split_some_by b (split_commas bs) (b == 44)

-- by whether a comma comes
joined_by : (b : ℕ) (bs : List ℕ) (parts : List (List ℕ)) (t : Bool) → (b == 44) ≡ t → 0 < length parts → with_commas parts ≡ bs → with_commas (cond t ([] ∷ parts) (cons_first b parts)) ≡ b ∷ bs
joined_by b bs parts true is some more = joined_none parts some ∙ ap (λ xs. 44 ∷ xs) more ∙ ap (λ x. x ∷ bs) (sym (eqb-true b 44 is))
joined_by b bs parts false is some more = joined_first b parts ∙ ap (λ xs. b ∷ xs) more

-- the parts joined are the text
pub joined_split : (text : List ℕ) → with_commas (split_commas text) ≡ text
joined_split [] = refl
joined_split (b ∷ bs) = joined_by b bs (split_commas bs) (b == 44) refl (split_some bs) (joined_split bs)

-- no part has a comma
no_commas_first : (b : ℕ) (parts : List (List ℕ)) → (b == 44) ≡ false → HaveNoCommas parts → HaveNoCommas (cons_first b parts)
no_commas_first b [] is none = (ap (λ t. not t && true) is, tt)
no_commas_first b (part ∷ parts) is none = (ap (λ t. not t && list_all is_no_comma part) is ∙ none.0, none.1)

-- by whether a comma comes
no_commas_by : (b : ℕ) (parts : List (List ℕ)) (t : Bool) → (b == 44) ≡ t → HaveNoCommas parts → HaveNoCommas (cond t ([] ∷ parts) (cons_first b parts))
no_commas_by b parts true is none = (refl, none)
no_commas_by b parts false is none = no_commas_first b parts is none

-- no part of a text has a comma
pub split_no_commas : (text : List ℕ) → HaveNoCommas (split_commas text)
split_no_commas [] = (refl, tt)
split_no_commas (b ∷ bs) = no_commas_by b (split_commas bs) (b == 44) refl (split_no_commas bs)

-- a test that fails
pub not_true : (t : Bool) → not t ≡ true → t ≡ false
not_true true is = absurd (cc)
not_true false is = refl

-- a text without commas is one part
pub split_one : (text : List ℕ) → HasNoComma text → split_commas text ≡ text ∷ []
split_one [] none = refl
split_one (b ∷ bs) none =
    ap (λ t. cond t ([] ∷ split_commas bs) (cons_first b (split_commas bs))) (not_true (b == 44) (all_first is_no_comma b bs none))
    ∙ ap (cons_first b) (split_one bs (all_rest is_no_comma b bs none))

-- what stands in front of a comma is the first part
pub split_first : (part text : List ℕ) → HasNoComma part → split_commas (part ++ 44 ∷ text) ≡ part ∷ split_commas text
split_first [] text none = refl
split_first (b ∷ bs) text none =
    ap (λ t. cond t ([] ∷ split_commas (bs ++ 44 ∷ text)) (cons_first b (split_commas (bs ++ 44 ∷ text)))) (not_true (b == 44) (all_first is_no_comma b bs none))
    ∙ ap (cons_first b) (split_first bs text (all_rest is_no_comma b bs none))

-- parts joined and cut again
pub split_joined : (part : List ℕ) (parts : List (List ℕ)) → HaveNoCommas (part ∷ parts) → split_commas (with_commas (part ∷ parts)) ≡ part ∷ parts
split_joined part [] none = split_one part none.0
split_joined part (next ∷ parts) none = split_first part (with_commas (next ∷ parts)) none.0 ∙ ap (λ ps. part ∷ ps) (split_joined next parts none.1)

-- the first part ends at the first comma
pub split_commas_at : (xs : List ℕ) (i : ℕ) → i < length xs → get_or xs i 0 ≡ 44 → ((k : ℕ) → k < i → get_or xs k 0 ≢ 44) → split_commas xs ≡ take i xs ∷ split_commas (drop (suc i) xs)
split_commas_at [] i inside comma before = absurd (omega arith)
split_commas_at (b ∷ bs) zero inside comma before =
    ap (λ t. cond t ([] ∷ split_commas bs) (cons_first b (split_commas bs))) (eq-eqb b 44 comma)
split_commas_at (b ∷ bs) (suc i) inside comma before =
    ap (λ t. cond t ([] ∷ split_commas bs) (cons_first b (split_commas bs))) (ne_eqb b 44 (before 0 (omega arith)))
    ∙ ap (cons_first b) (split_commas_at bs i (omega arith) comma (λ k below. before (suc k) (omega arith)))

-- without a comma there is one part
pub split_commas_whole : (xs : List ℕ) → ((k : ℕ) → k < length xs → get_or xs k 0 ≢ 44) → split_commas xs ≡ xs ∷ []
split_commas_whole [] none = refl
split_commas_whole (b ∷ bs) none =
    ap (λ t. cond t ([] ∷ split_commas bs) (cons_first b (split_commas bs))) (ne_eqb b 44 (none 0 (omega arith)))
    ∙ ap (cons_first b) (split_commas_whole bs (λ k below. none (suc k) (omega arith)))
