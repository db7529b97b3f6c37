-- Which changes are drawn while only removals are.
use Rattle.std.proofs.Common.{◌≡◌, Bool, true, List, [], ◌∷◌, ◌++◌, sym, subst}
use Rattle.std.specs.List.{All}
use Rattle.std.proofs.lemmas.List.Elements.{All-nil, All-cons, All-head, All-tail, All-same, All-push}
use Rattle.up_log.specs.declared.entry.Entry.{Entry}
use Rattle.up_store.specs.Lines.{AreDrawn, IsRemoval}

all_left : (xs ys : List Entry) → All IsRemoval (xs ++ ys) → All IsRemoval xs
all_left [] ys all = All-nil IsRemoval
all_left (x ∷ xs) ys all = All-cons IsRemoval x xs (All-head IsRemoval x (xs ++ ys) all) (all_left xs ys (All-tail IsRemoval x (xs ++ ys) all))

all_right : (xs ys : List Entry) → All IsRemoval (xs ++ ys) → All IsRemoval ys
all_right [] ys all = all
all_right (x ∷ xs) ys all = all_right xs ys (All-tail IsRemoval x (xs ++ ys) all)

-- no changes
pub none_drawn : (is : Bool) (xs : List Entry) → xs ≡ [] → AreDrawn is xs
none_drawn is xs none on = All-same IsRemoval xs [] none (All-nil IsRemoval)

-- the first of those that wait, and the rest
pub first_drawn : (is : Bool) (all first rest : List Entry) → all ≡ first ++ rest → AreDrawn is all → AreDrawn is first
first_drawn is all first rest same drawn on = all_left first rest (All-same IsRemoval (first ++ rest) all (sym same) (drawn on))

-- the same, as a caller sees them
pub taken_drawn : (is now : Bool) (all first rest taken : List Entry) → is ≡ now → all ≡ first ++ rest → taken ≡ first → AreDrawn is all → AreDrawn now taken
taken_drawn is now all first rest taken same split takes drawn =
    let seen = subst (λ (xs : List Entry). AreDrawn is xs) (sym takes) (first_drawn is all first rest split drawn) in
    subst (λ (b : Bool). AreDrawn b taken) same seen

pub rest_drawn : (is : Bool) (all first rest : List Entry) → all ≡ first ++ rest → AreDrawn is all → AreDrawn is rest
rest_drawn is all first rest same drawn on = all_right first rest (All-same IsRemoval (first ++ rest) all (sym same) (drawn on))

-- one more is drawn
pub more_drawn : (is : Bool) (xs ys : List Entry) (x : Entry) → ys ≡ xs ++ x ∷ [] → AreDrawn is xs → (is ≡ true → IsRemoval x) → AreDrawn is ys
more_drawn is xs ys x same drawn removal on = All-same IsRemoval ys (xs ++ x ∷ []) same (All-push IsRemoval xs x (drawn on) (removal on))
