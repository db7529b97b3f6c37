-- The front of a lawful list is lawful, and so is no event.
use Rattle.std.proofs.Common.{◌≡◌, ℕ, ◌+◌, cond, List, [], ◌∷◌, ◌++◌, filter, count_by, arith, refl, ap, ◌∙◌, subst, append_assoc}
use Rattle.std.proofs.lemmas.List.Elements.{filter-append}
use Rattle.std.proofs.lemmas.List.Sums.{sum_by-append}
use Rattle.up_events.specs.declared.event.Event.{Event}
use Rattle.up_events.specs.Log.{is_of, is_finish, CountsFrom, IsLawfulRun, IsLawful, FrontsAreLawful}

nothing_before : (xs ys : List Event) → xs ++ ys ≡ [] → xs ≡ []
nothing_before [] ys h = refl
nothing_before (x ∷ xs) ys h = cc

counts_before : (n : ℕ) (xs ys : List Event) → CountsFrom n (xs ++ ys) → CountsFrom n xs
counts_before n [] ys c = tt
counts_before n (x ∷ xs) ys c = (c.0, counts_before (n + 1) xs ys c.1)

abbrev finishes : List Event → ℕ
finishes es = count_by (λ (e : Event). is_finish e.hook) es

finishes-append : (xs ys : List Event) → finishes (xs ++ ys) ≡ finishes xs + finishes ys
finishes-append xs ys = sum_by-append (λ (e : Event). cond (is_finish e.hook) 1 0) xs ys

run_before : (xs ys : List Event) → IsLawfulRun (xs ++ ys) → IsLawfulRun xs
run_before xs ys r = record {
  numbers = counts_before 0 xs ys r.numbers;
  first = λ e rest is. r.first e (rest ++ ys) (ap (λ l. l ++ ys) is);
  one_finish = let h = r.one_finish in let s = finishes-append xs ys in omega arith;
  last = λ front back e is end. nothing_before back ys (r.last front (back ++ ys) e (ap (λ l. l ++ ys) is ∙ append_assoc front (e ∷ back) ys) end);
}

pub fronts_lawful : FrontsAreLawful
fronts_lawful xs ys l = λ u. run_before (filter (is_of u) xs) (filter (is_of u) ys) (subst IsLawfulRun (filter-append (is_of u) xs ys) (l u))

none_split : (front back : List Event) (e : Event) → [] ≡ front ++ e ∷ back → ⊥
none_split [] back e is = cc
none_split (f ∷ front) back e is = cc

no_run : IsLawfulRun []
no_run = record { numbers = tt; first = λ e rest is. absurd (cc); one_finish = omega arith; last = λ front back e is end. absurd (none_split front back e is) }

pub nothing_lawful : IsLawful []
nothing_lawful = λ u. no_run
