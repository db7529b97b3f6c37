-- Writing one text after another.
use Rattle.std.proofs.Common.{◌≡◌, ℕ, ◌+◌, ◌<◌, ◌≤◌, Bool, true, false, List, [], ◌∷◌, ◌++◌, length, take, drop, get_or, Option, refl, sym, ap, ◌∙◌, append_assoc, append-nil, subst, arith}
use Rattle.std.specs.List.{flat_map}
use Rattle.std.specs.Io.KnownBytes.{Appends, Keeps}
use Rattle.std.proofs.KnownBytes.{Appends-nil, Appends-trans, Appends-kept}
use Rattle.std.proofs.lemmas.List.{take_more, take_all, take-append-drop}
use Rattle.std.proofs.lemmas.Grind.{flat_map-append}
use Rattle.up_wire.specs.Device.{Device}
use Rattle.up_wire.specs.Limits.{max_interruptions}
use Rattle.up_wire.specs.Response.{WritesFront}
use Rattle.up_wire.specs.Steps.{WritesIf, HasWritten}
use Rattle.up_wire.proofs.Counting.{counts_none, counts_on}

-- a text that was written whole, and some of the next
pub writes_then : {a b c : Device} {i j k : ℕ} {x y : List ℕ} {done : Bool} → HasWritten a b i j x true → HasWritten b c j k y done → HasWritten a c i k (x ++ y) done
writes_then {a} {b} {c} {i} {j} {k} {x} {y} first next =
    let whole = first.written.3 refl in
    let rest = next.written in
    record {
      written = (
        x ++ rest.0,
        (rest.1.0, ap (λ t. x ++ t) rest.1.1 ∙ sym (append_assoc x rest.0 rest.1.0)),
        Appends-trans _ _ _ _ _ (subst (Appends a.bytes b.bytes) whole first.written.2) rest.2,
        λ yes. ap (λ t. x ++ t) (rest.3 yes),
      );
      tries = record {
        counts = counts_on a b c i j k first.tries.counts next.tries.counts;
        bounded = next.tries.bounded;
        patient = next.tries.patient;
        failed = next.tries.failed;
      };
    }

-- some of a text is some of a longer one
pub writes_cut : {a b : Device} {i j : ℕ} {x : List ℕ} (y : List ℕ) → HasWritten a b i j x false → HasWritten a b i j (x ++ y) false
writes_cut y some =
    let part = some.written in
    record {
      written = (
        part.0,
        (part.1.0 ++ y, ap (λ t. t ++ y) part.1.1 ∙ append_assoc part.0 part.1.0 y),
        part.2,
        λ yes. absurd (cc),
      );
      tries = some.tries;
    }

-- the same text
pub writes_as : {a b : Device} {i j : ℕ} {x y : List ℕ} {done : Bool} → x ≡ y → HasWritten a b i j x done → HasWritten a b i j y done
writes_as {a} {b} {i} {j} {x} {y} {done} same writes = subst (λ t. HasWritten a b i j t done) same writes

-- the same, by what the call returned
pub cut_at : {a b : Device} {i j : ℕ} {x : List ℕ} {done : Bool} (y : List ℕ) → done ≡ false → HasWritten a b i j x done → HasWritten a b i j (x ++ y) false
cut_at {a} {b} {i} {j} {x} y cut writes = writes_cut y (subst (HasWritten a b i j x) cut writes)

pub then_at : {a b c : Device} {i j k : ℕ} {x y : List ℕ} {first next : Bool} → first ≡ true → HasWritten a b i j x first → HasWritten b c j k y next → HasWritten a c i k (x ++ y) next
then_at {a} {b} {c} {i} {j} {k} {x} whole one two = writes_then (subst (HasWritten a b i j x) whole one) two

-- what one more element adds
pub flat_map-more : {X : Type 0} (f : X → List ℕ) (xs : List X) (i : ℕ) (d : X) → i < length xs → flat_map f (take (i + 1) xs) ≡ flat_map f (take i xs) ++ f (get_or xs i d)
flat_map-more f xs i d inside =
    ap (flat_map f) (take_more xs i d inside) ∙ flat_map-append f (take i xs) (get_or xs i d ∷ []) ∙ ap (λ t. flat_map f (take i xs) ++ t) (append-nil (f (get_or xs i d)))

-- the whole, from one more element on
pub flat_map-split : {X : Type 0} (f : X → List ℕ) (xs : List X) (i : ℕ) → flat_map f xs ≡ flat_map f (take i xs) ++ flat_map f (drop i xs)
flat_map-split f xs i = ap (flat_map f) (sym (take-append-drop i xs)) ∙ flat_map-append f (take i xs) (drop i xs)

-- nothing was written yet
pub none_written : (device : Device) (count : ℕ) → count < max_interruptions → HasWritten device device count count [] true
none_written device count patient = record {
  written = ([], ([], refl), Appends-nil _, λ yes. refl);
  tries = record { counts = counts_none device count; bounded = omega arith; patient = λ yes. patient; failed = λ no. absurd (cc) };
}

-- a list written one by one: it breaks off at an element
pub each_cut : {X : Type 0} {a b c : Device} {m j k : ℕ} {done : Bool} (f : X → List ℕ) (xs : List X) (i : ℕ) (d : X) → i < length xs
    → HasWritten a b m j (flat_map f (take i xs)) true → HasWritten b c j k (f (get_or xs i d)) done → done ≡ false → HasWritten a c m k (flat_map f xs) false
each_cut {X} {a} {b} {c} {m} {j} {k} f xs i d inside before next cut =
    let one = flat_map-more f xs i d inside in
    let some = writes_then before (subst (HasWritten b c j k (f (get_or xs i d))) cut next) in
    let whole = flat_map-split f xs (i + 1) ∙ ap (λ t. t ++ flat_map f (drop (i + 1) xs)) one in
    writes_as (sym whole) (writes_cut (flat_map f (drop (i + 1) xs)) some)

-- and it goes on
pub each_next : {X : Type 0} {a b c : Device} {m j k : ℕ} {done : Bool} (f : X → List ℕ) (xs : List X) (i : ℕ) (d : X) → i < length xs
    → HasWritten a b m j (flat_map f (take i xs)) true → HasWritten b c j k (f (get_or xs i d)) done → done ≡ true → HasWritten a c m k (flat_map f (take (i + 1) xs)) true
each_next {X} {a} {b} {c} {m} {j} {k} f xs i d inside before next whole =
    writes_as (sym (flat_map-more f xs i d inside)) (writes_then before (subst (HasWritten b c j k (f (get_or xs i d))) whole next))

-- and it is whole
pub each_whole : {X : Type 0} {a b : Device} {m j : ℕ} (f : X → List ℕ) (xs : List X) (i : ℕ) → length xs ≤ i
    → HasWritten a b m j (flat_map f (take i xs)) true → HasWritten a b m j (flat_map f xs) true
each_whole f xs i all writes = writes_as (ap (flat_map f) (take_all i xs all)) writes

-- a text that was written whole, and sent on or not
pub kept_at : (a b c : Option (List ℕ)) (x : List ℕ) (first done : Bool) → first ≡ true → WritesIf a b x first → Keeps b c → WritesIf a c x done
kept_at a b c x first done whole writes kept =
    let all = subst (WritesIf a b x) whole writes in
    (all.0, all.1, Appends-kept a b c all.0 all.2 kept, λ yes. all.3 refl)

-- all of it, or a front of it
pub writes_ok : (a b : Option (List ℕ)) (x : List ℕ) → WritesIf a b x true → Appends a b x
writes_ok a b x whole = subst (Appends a b) (whole.3 refl) whole.2

pub writes_front : (a b : Option (List ℕ)) (x : List ℕ) (done : Bool) → WritesIf a b x done → WritesFront a b x
writes_front a b x done some = (some.0, some.1, some.2)

pub writes_at : (a b : Option (List ℕ)) (x : List ℕ) (done : Bool) → done ≡ true → WritesIf a b x done → Appends a b x
writes_at a b x done whole writes = writes_ok a b x (subst (WritesIf a b x) whole writes)
