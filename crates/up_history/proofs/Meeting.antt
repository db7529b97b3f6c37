-- Two beginnings of one list.
use Rattle.std.proofs.Common.{◌≡◌, ◌≤◌, ◌<◌, ℕ, zero, suc, List, [], ◌∷◌, length, take, Option, slice_get, arith, ◌∙◌, sym}
use mathlib.Core.List.{IsPrefix}
use Rattle.up_history.specs.Rules.{entries_in}
use Rattle.up_history.proofs.Beginnings.{prefix_shorter, prefix_whole, prefix-take, entries_in-prefix}

-- one begins with the other
pub record Meet {E : Type 0} (xs ys : List E) : Type 0 where
  pub shorter : length xs ≤ length ys → IsPrefix xs ys
  pub longer : length ys ≤ length xs → IsPrefix ys xs
  pub same : length xs ≡ length ys → xs ≡ ys
  pub alike : (n : ℕ) → n ≤ length xs → n ≤ length ys → take n xs ≡ take n ys

meeting : {E : Type 0} (xs ys all : List E) → IsPrefix xs all → IsPrefix ys all → Meet xs ys
meeting xs ys all p q = record {
  shorter = λ le. prefix_shorter xs ys all p q le;
  longer = λ le. prefix_shorter ys xs all q p le;
  same = λ is. prefix_whole xs ys (prefix_shorter xs ys all p q (omega arith)) (omega arith);
  alike = λ n here there. prefix-take xs all n p here ∙ sym (prefix-take ys all n q there);
}

-- the entries of two beginnings of one log
pub entries_meet : {E : Type 0} (xs ys all : List (Option E)) → IsPrefix xs all → IsPrefix ys all → Meet (entries_in xs) (entries_in ys)
entries_meet xs ys all p q = meeting (entries_in xs) (entries_in ys) (entries_in all) (entries_in-prefix xs all p) (entries_in-prefix ys all q)

same_take-get : {E : Type 0} (xs ys : List E) (k : ℕ) → take (suc k) xs ≡ take (suc k) ys → k < length xs → k < length ys → slice_get ys k ≡ slice_get xs k
same_take-get [] ys k is here there = absurd (omega arith)
same_take-get (x ∷ xs) [] k is here there = absurd (omega arith)
same_take-get (x ∷ xs) (y ∷ ys) zero is here there = cc (is)
same_take-get (x ∷ xs) (y ∷ ys) (suc k) is here there = same_take-get xs ys k (cc (is)) (omega arith) (omega arith)

-- what stands at a place that both have is the same
pub stands : {E : Type 0} (xs ys : List E) (k : ℕ) → ((n : ℕ) → n ≤ length xs → n ≤ length ys → take n xs ≡ take n ys)
    → k < length xs → k < length ys → slice_get ys k ≡ slice_get xs k
stands xs ys k alike here there = same_take-get xs ys k (alike (suc k) (omega arith) (omega arith)) here there
