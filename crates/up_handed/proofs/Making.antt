-- A list that is made of another one, item by item.
use Rattle.std.proofs.Common.{◌≡◌, List, [], ◌∷◌, ◌++◌, length, map, arith, ap, sym, ◌∙◌, append_assoc, append-nil}
use Rattle.std.proofs.lemmas.List.{length-append, length-map, map-append, nil_from_length}

-- one more was made of the first of those that were left
pub grows : {X Y : Type 0} (f : X → Y) (made : List X) (next : X) (first : Y) (rest left all : List Y) → f next ≡ first → left ≡ first ∷ rest → map f made ++ left ≡ all → map f (made ++ next ∷ []) ++ rest ≡ all
grows f made next first rest left all is split was =
    ap (λ l. l ++ rest) (map-append f made (next ∷ [])) ∙ append_assoc (map f made) (f next ∷ []) rest
    ∙ ap (λ y. map f made ++ (y ∷ rest)) is ∙ ap (λ l. map f made ++ l) (sym split) ∙ was

-- none is left once as many were made as there were
pub all_made : {X Y : Type 0} (f : X → Y) (made : List X) (left all : List Y) → map f made ++ left ≡ all → length made ≡ length all → map f made ≡ all
all_made f made left all is same =
    let none : left ≡ [] = nil_from_length left (omega (arith, same, ap length is, length-append (map f made) left, length-map made f)) in
    sym (append-nil (map f made)) ∙ ap (λ l. map f made ++ l) (sym none) ∙ is
