-- What one more change does to each fact that the accepted changes define.
use Rattle.std.proofs.Common.{◌≡◌, ℕ, ◌+◌, ◌%◌, false, cond, eqb, ◌||◌, Option, Some, None, List, [], ◌∷◌, ◌++◌, length, refl, sym, ap, ◌∙◌, subst, arith, append_assoc}
use Rattle.std.proofs.lemmas.List.Sums.{sum_by-append}
use Rattle.std.proofs.lemmas.List.Folds.{list_any-append}
use Rattle.std.proofs.lemmas.Grind.{common_steps}
use Rattle.std.specs.Option.{option_or}
use Rattle.up_events.specs.Lists.{gather, EachFollows, first_given}
use Rattle.up_events.specs.History.{id_of, kind_in, length_in, bytes_in, ends, kind_of, length_of, received, offset_of, is_terminated, CanFollow, IsLegal, steps_of, events_of}
use Rattle.up_events.specs.Log.{numbered, log_of}
use Rattle.up_events.specs.declared.event.Accepted.{Accepted}
use Rattle.up_events.specs.declared.event.Accepted.TheVariants.{Created, Appended, Declared, Terminated}

pub append_nil : {X : Type 0} (xs : List X) → xs ++ [] ≡ xs
append_nil [] = refl
append_nil (x ∷ xs) = ap (λ ys. x ∷ ys) (append_nil xs)

pub gather-snoc : {X Y : Type 0} (f : List X → X → List Y) (before rest : List X) (x : X) → gather f before (rest ++ x ∷ []) ≡ gather f before rest ++ f (before ++ rest) x
unfolding gather
gather-snoc f before [] x = append_nil (f before x) ∙ ap (λ l. f l x) (sym (append_nil before))
gather-snoc f before (y ∷ rest) x =
    ap (λ l. f before y ++ l) (gather-snoc f (before ++ y ∷ []) rest x ∙ ap (λ l. gather f (before ++ y ∷ []) rest ++ f l x) (append_assoc before (y ∷ []) rest))
    ∙ sym (append_assoc (f before y) _ _)

pub EachFollows-snoc : {X : Type 0} (P : List X → X → Type 0) (before rest : List X) (x : X) → EachFollows P before rest → P (before ++ rest) x → EachFollows P before (rest ++ x ∷ [])
unfolding EachFollows
EachFollows-snoc P before [] x each here = (subst (λ l. P l x) (append_nil before) here, tt)
EachFollows-snoc P before (y ∷ rest) x each here =
    (each.0, EachFollows-snoc P (before ++ y ∷ []) rest x each.1 (subst (λ l. P l x) (sym (append_assoc before (y ∷ []) rest)) here))

-- what holds of the empty list, and of a list with one more change that can follow it, holds of each legal list
legal_from : (P : List Accepted → Type 0) → ((before : List Accepted) (c : Accepted) → P before → CanFollow before c → P (before ++ c ∷ [])) → (before rest : List Accepted) → P before → EachFollows CanFollow before rest → P (before ++ rest)
unfolding EachFollows
legal_from P more before [] here each = subst P (sym (append_nil before)) here
legal_from P more before (c ∷ rest) here each =
    subst P (append_assoc before (c ∷ []) rest) (legal_from P more (before ++ c ∷ []) rest (more before c here each.0) each.1)

pub legal_induction : (P : List Accepted → Type 0) → P [] → ((before : List Accepted) (c : Accepted) → P before → CanFollow before c → P (before ++ c ∷ [])) → (changes : List Accepted) → IsLegal changes → P changes
legal_induction P none more changes legal = legal_from P more [] changes none legal

-- ---- one more change

pub or_none : {X : Type 0} (x : Option X) → option_or x None ≡ x
or_none None = refl
or_none (Some x) = refl

or_assoc : {X : Type 0} (x y z : Option X) → option_or x (option_or y z) ≡ option_or (option_or x y) z
or_assoc None y z = refl
or_assoc (Some x) y z = refl

first_given-snoc : {X Y : Type 0} (f : X → Option Y) (xs : List X) (x : X) → first_given f (xs ++ x ∷ []) ≡ option_or (first_given f xs) (f x)
unfolding first_given
first_given-snoc f [] x = or_none (f x)
first_given-snoc f (y ∷ xs) x = ap (option_or (f y)) (first_given-snoc f xs x) ∙ or_assoc (f y) (first_given f xs) (f x)

pub kind_of-snoc : (changes : List Accepted) (c : Accepted) (u : ℕ) → kind_of (changes ++ c ∷ []) u ≡ option_or (kind_of changes u) (kind_in u c)
unfolding kind_of
kind_of-snoc changes c u = first_given-snoc (kind_in u) changes c

pub length_of-snoc : (changes : List Accepted) (c : Accepted) (u : ℕ) → length_of (changes ++ c ∷ []) u ≡ option_or (length_of changes u) (length_in u c)
unfolding length_of
length_of-snoc changes c u = first_given-snoc (length_in u) changes c

pub received-snoc : (changes : List Accepted) (c : Accepted) (u : ℕ) → received (changes ++ c ∷ []) u ≡ received changes u + bytes_in u c
unfolding received
received-snoc changes c u = omega (arith, sum_by-append (bytes_in u) changes (c ∷ []))

pub is_terminated-snoc : (changes : List Accepted) (c : Accepted) (u : ℕ) → is_terminated (changes ++ c ∷ []) u ≡ (is_terminated changes u || ends u c)
unfolding is_terminated
is_terminated-snoc changes c u = grind (arith, common_steps, list_any-append (ends u) changes (c ∷ []))

pub events_of-snoc : (changes : List Accepted) (c : Accepted) (u : ℕ) → events_of (changes ++ c ∷ []) u ≡ events_of changes u ++ cond (eqb (id_of c) u) (steps_of changes c) []
unfolding events_of
events_of-snoc changes c u = gather-snoc _ [] changes c

pub log_of-snoc : (lanes : ℕ) (changes : List Accepted) (c : Accepted) (k : ℕ) → log_of lanes (changes ++ c ∷ []) k ≡ log_of lanes changes k ++ cond (eqb (id_of c % lanes) k) (numbered (id_of c) (length (events_of changes (id_of c))) (steps_of changes c)) []
unfolding log_of
log_of-snoc lanes changes c k = gather-snoc _ [] changes c

-- ---- another upload stays as it was

kind_in-other : (c : Accepted) (u : ℕ) → eqb (id_of c) u ≡ false → kind_in u c ≡ None
kind_in-other (Created id length kind) u e = ap (λ b. cond b (Some kind) None) e
kind_in-other (Appended id count) u e = refl
kind_in-other (Declared id length count) u e = refl
kind_in-other (Terminated id) u e = refl

length_in-other : (c : Accepted) (u : ℕ) → eqb (id_of c) u ≡ false → length_in u c ≡ None
length_in-other (Created id length kind) u e = ap (λ b. cond b length None) e
length_in-other (Appended id count) u e = refl
length_in-other (Declared id length count) u e = ap (λ b. cond b (Some length) None) e
length_in-other (Terminated id) u e = refl

bytes_in-other : (c : Accepted) (u : ℕ) → eqb (id_of c) u ≡ false → bytes_in u c ≡ 0
bytes_in-other (Created id length kind) u e = refl
bytes_in-other (Appended id count) u e = ap (λ b. cond b count 0) e
bytes_in-other (Declared id length count) u e = ap (λ b. cond b count 0) e
bytes_in-other (Terminated id) u e = refl

ends-other : (c : Accepted) (u : ℕ) → eqb (id_of c) u ≡ false → ends u c ≡ false
ends-other (Created id length kind) u e = refl
ends-other (Appended id count) u e = refl
ends-other (Declared id length count) u e = refl
ends-other (Terminated id) u e = e

pub kind_of-other : (changes : List Accepted) (c : Accepted) (u : ℕ) → eqb (id_of c) u ≡ false → kind_of (changes ++ c ∷ []) u ≡ kind_of changes u
kind_of-other changes c u e = kind_of-snoc changes c u ∙ ap (option_or (kind_of changes u)) (kind_in-other c u e) ∙ or_none _

pub length_of-other : (changes : List Accepted) (c : Accepted) (u : ℕ) → eqb (id_of c) u ≡ false → length_of (changes ++ c ∷ []) u ≡ length_of changes u
length_of-other changes c u e = length_of-snoc changes c u ∙ ap (option_or (length_of changes u)) (length_in-other c u e) ∙ or_none _

pub received-other : (changes : List Accepted) (c : Accepted) (u : ℕ) → eqb (id_of c) u ≡ false → received (changes ++ c ∷ []) u ≡ received changes u
received-other changes c u e = omega (arith, received-snoc changes c u, bytes_in-other c u e)

pub offset_of-other : (changes : List Accepted) (c : Accepted) (u : ℕ) → eqb (id_of c) u ≡ false → offset_of (changes ++ c ∷ []) u ≡ offset_of changes u
unfolding offset_of
offset_of-other changes c u e = rw (kind_of-other changes c u e, length_of-other changes c u e, received-other changes c u e) refl

pub is_terminated-other : (changes : List Accepted) (c : Accepted) (u : ℕ) → eqb (id_of c) u ≡ false → is_terminated (changes ++ c ∷ []) u ≡ is_terminated changes u
is_terminated-other changes c u e = grind (arith, common_steps, is_terminated-snoc changes c u, ends-other c u e)

pub events_of-other : (changes : List Accepted) (c : Accepted) (u : ℕ) → eqb (id_of c) u ≡ false → events_of (changes ++ c ∷ []) u ≡ events_of changes u
events_of-other changes c u e = events_of-snoc changes c u ∙ ap (λ b. events_of changes u ++ cond b (steps_of changes c) []) e ∙ append_nil _
