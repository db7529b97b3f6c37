-- Writing bytes that are read from a shelf, one text after another.
use Rattle.std.proofs.Common.{◌≡◌, ℕ, ◌+◌, ◌-◌, ◌/◌, ◌%◌, ◌<◌, ◌≤◌, ◌||◌, Bool, true, false, List, [], ◌∷◌, ◌++◌, length, take, drop, get_or, refl, sym, ap, ◌∙◌, append-nil, length-append, length-take, length-drop, min, take-append-drop, take-add, subst, arith, inl, inr}
use Rattle.std.specs.List.{flat_map}
use Rattle.std.proofs.lemmas.Bool.{or_left, or_right}
use Rattle.std.proofs.lemmas.List.{take_all, take_min}
use Rattle.up_wire.specs.Device.{Device, GaveUp}
use Rattle.up_wire.specs.Limits.{max_interruptions}
use Rattle.up_wire.specs.Steps.{HasWritten}
use Rattle.std.specs.Prelude.{codes, decimal, ◌==◌, if◌then◌else◌}
use Rattle.std.specs.List.{concat}
use Rattle.httparse.specs.Ascii.{crlf_bytes}
use Rattle.up_message.specs.declared.response.Response.{Response}
use Rattle.up_places.specs.Places.{part_at}
use Rattle.up_wire.specs.Response.{start_text, field_line, length_line, gap_text, head_text, response_text, shown}
use Rattle.up_wire.specs.Shown.{beside, IsShownFor, HasShown, HasShownResponse}
use Rattle.up_wire.proofs.Writing.{writes_then, writes_cut, none_written, flat_map-more, flat_map-split}

-- a sink that gave up has done so beside any shelf
gave_up : (sink : Device) (broken : Bool) (n : ℕ) → GaveUp sink n → GaveUp (beside sink broken) n
gave_up sink broken n (inl failed) = inl (or_left sink.has_failed broken failed)
gave_up sink broken n (inr often) = inr often

-- a call that does not touch the shelf
pub beside_written : {a b : Device} {i j : ℕ} {x : List ℕ} {done : Bool} (f g : Bool) → HasWritten a b i j x done → HasWritten (beside a f) (beside b g) i j x done
beside_written {a} {b} {i} {j} {x} {done} f g writes = record {
  written = writes.written;
  tries = record {
    counts = record { rose = writes.tries.counts.rose; counted = writes.tries.counts.counted };
    bounded = writes.tries.bounded;
    patient = writes.tries.patient;
    failed = λ no. gave_up b g j (writes.tries.failed no);
  };
}

-- a shelf that failed after a text was written
pub broke_at : (a b : Device) {i j : ℕ} {x : List ℕ} (f g h : Bool) (y : List ℕ) → h ≡ true → HasWritten (beside a f) (beside b g) i j x true → HasWritten (beside a f) (beside b h) i j (x ++ y) false
broke_at a b {i} {j} {x} f g h y failed writes =
    writes_cut y (record {
      written = (writes.written.0, writes.written.1, writes.written.2, λ yes. absurd (cc));
      tries = record {
        counts = record { rose = writes.tries.counts.rose; counted = writes.tries.counts.counted };
        bounded = writes.tries.bounded;
        patient = λ yes. absurd (cc);
        failed = λ no. inl (or_right b.has_failed h failed);
      };
    })

pub shown_same : {T : Type 0} (x : List ℕ) → IsShownFor T x x
shown_same x = record { as_many = refl; same = λ yes. refl }

pub shown_append : {S T : Type 0} {x y p q : List ℕ} → (T → S) → IsShownFor S x p → IsShownFor T y q → IsShownFor T (x ++ y) (p ++ q)
shown_append {S} {T} {x} {y} {p} {q} stays one two = record {
  as_many = length-append p q ∙ ap (λ n. n + length q) one.as_many ∙ ap (λ n. length x + n) two.as_many ∙ sym (length-append x y);
  same = λ yes. ap (λ l. l ++ q) (one.same (stays yes)) ∙ ap (λ l. x ++ l) (two.same yes);
}

-- bytes in memory
pub shows_plain : {a b : Device} {i j : ℕ} {x : List ℕ} {done : Bool} {T : Type 0} (f g : Bool) → HasWritten a b i j x done → HasShown T (beside a f) (beside b g) i j x done
shows_plain {x = x} f g writes = record { shown = x; is_shown = shown_same x; written = beside_written f g writes }

pub none_shown : {T : Type 0} (device : Device) (count : ℕ) → count < max_interruptions → HasShown T device device count count [] true
none_shown device count patient = record { shown = []; is_shown = shown_same []; written = none_written device count patient }

pub shows_as : {T : Type 0} {a b : Device} {i j : ℕ} {x y : List ℕ} {done : Bool} → x ≡ y → HasShown T a b i j x done → HasShown T a b i j y done
shows_as {T} {a} {b} {i} {j} {x} {y} {done} same shows = subst (λ l. HasShown T a b i j l done) same shows

pub shows_then : {S T : Type 0} {a b c : Device} {i j k : ℕ} {x y : List ℕ} {done : Bool} → (T → S) → HasShown S a b i j x true → HasShown T b c j k y done → HasShown T a c i k (x ++ y) done
shows_then stays one two = record {
  shown = one.shown ++ two.shown;
  is_shown = shown_append stays one.is_shown two.is_shown;
  written = writes_then one.written two.written;
}

pub shows_cut : {T : Type 0} {a b : Device} {i j : ℕ} {x : List ℕ} (y : List ℕ) → HasShown T a b i j x false → HasShown T a b i j (x ++ y) false
shows_cut y some = record {
  shown = some.shown ++ y;
  is_shown = shown_append (λ yes. yes) some.is_shown (shown_same y);
  written = writes_cut y some.written;
}

-- the shelf failed after these bytes
pub shows_broken : {S T : Type 0} (a b : Device) {i j : ℕ} {x : List ℕ} (f g h : Bool) (y : List ℕ) → h ≡ true → (T → S)
    → HasShown S (beside a f) (beside b g) i j x true → HasShown T (beside a f) (beside b h) i j (x ++ y) false
shows_broken a b f g h y failed stays some = record {
  shown = some.shown ++ y;
  is_shown = shown_append stays some.is_shown (shown_same y);
  written = broke_at a b f g h y failed some.written;
}

-- the same, by what the call returned
pub shows_cut_at : {T : Type 0} {a b : Device} {i j : ℕ} {x : List ℕ} {done : Bool} (y : List ℕ) → done ≡ false → HasShown T a b i j x done → HasShown T a b i j (x ++ y) false
shows_cut_at {T} {a} {b} {i} {j} {x} y cut shows = shows_cut y (subst (HasShown T a b i j x) cut shows)

pub shows_then_at : {S T : Type 0} {a b c : Device} {i j k : ℕ} {x y : List ℕ} {first next : Bool} → first ≡ true → (T → S)
    → HasShown S a b i j x first → HasShown T b c j k y next → HasShown T a c i k (x ++ y) next
shows_then_at {S} {T} {a} {b} {c} {i} {j} {k} {x} whole stays one two = shows_then stays (subst (HasShown S a b i j x) whole one) two

-- a list shown one by one: it breaks off at an element
pub each_shown_cut : {X : Type 0} {S T : Type 0} {a b c : Device} {m j k : ℕ} {done : Bool} (f : X → List ℕ) (xs : List X) (i : ℕ) (d : X) → i < length xs → (T → S)
    → HasShown S a b m j (flat_map f (take i xs)) true → HasShown T b c j k (f (get_or xs i d)) done → done ≡ false → HasShown T a c m k (flat_map f xs) false
each_shown_cut {X} {S} {T} {a} {b} {c} {m} {j} {k} f xs i d inside stays before next cut =
    let some = shows_then stays before (subst (HasShown T b c j k (f (get_or xs i d))) cut next) in
    let whole = flat_map-split f xs (i + 1) ∙ ap (λ l. l ++ flat_map f (drop (i + 1) xs)) (flat_map-more f xs i d inside) in
    shows_as (sym whole) (shows_cut (flat_map f (drop (i + 1) xs)) some)

-- and it goes on
pub each_shown_next : {X : Type 0} {S T : Type 0} {a b c : Device} {m j k : ℕ} {done : Bool} (f : X → List ℕ) (xs : List X) (i : ℕ) (d : X) → i < length xs → (T → S)
    → HasShown S a b m j (flat_map f (take i xs)) true → HasShown T b c j k (f (get_or xs i d)) done → done ≡ true → HasShown T a c m k (flat_map f (take (i + 1) xs)) true
each_shown_next {X} {S} {T} {a} {b} {c} {m} {j} {k} f xs i d inside stays before next whole =
    shows_as (sym (flat_map-more f xs i d inside)) (shows_then stays before (subst (HasShown T b c j k (f (get_or xs i d))) whole next))

-- and it is whole
pub each_shown_whole : {X : Type 0} {T : Type 0} {a b : Device} {m j : ℕ} (f : X → List ℕ) (xs : List X) (i : ℕ) → length xs ≤ i
    → HasShown T a b m j (flat_map f (take i xs)) true → HasShown T a b m j (flat_map f xs) true
each_shown_whole f xs i all shows = shows_as (ap (flat_map f) (take_all i xs all)) shows

-- a block that was read of these bytes and is written
pub block_shown : {T : Type 0} {a b : Device} {i j : ℕ} {done : Bool} (f g : Bool) (all block : List ℕ) (from : ℕ) → from + length block ≤ length all
    → (T → block ≡ take (length block) (drop from all)) → HasWritten a b i j block done
    → HasShown T (beside a f) (beside b g) i j (take (length block) (drop from all)) done
block_shown f g all block from within read writes = record {
  shown = block;
  is_shown = record {
    as_many = omega (arith, within, length-take (length block) (drop from all), length-drop from all);
    same = read;
  };
  written = beside_written f g writes;
}

-- the first bytes, the next ones, and the rest
pub in_three : (from n : ℕ) (all : List ℕ) → all ≡ (take from all ++ take n (drop from all)) ++ drop (from + n) all
in_three from n all = sym (take-append-drop (from + n) all) ∙ ap (λ l. l ++ drop (from + n) all) (take-add from n all)

-- the head does not depend on which bytes the body has
head_of : (r : Response) (body : List ℕ) (bare close : Bool) → length body ≡ length r.body → head_text r bare close ≡ head_text (record r { body = body }) bare close
head_of r body bare close size =
    let line : length_line bare r ≡ length_line bare (record r { body = body }) =
    ap (λ n. if bare || r.status == 204 then [] else concat (codes "Content-Length: " ∷ decimal n ∷ crlf_bytes ∷ [])) (sym size) in
    ap (λ l. start_text r.status ++ (flat_map field_line r.fields ++ (l ++ gap_text close))) line

-- the head broke off
pub response_cut : {T : Type 0} {a b : Device} {i j : ℕ} {done : Bool} (r : Response) (bare close : Bool) (f g : Bool) → done ≡ false
    → HasWritten a b i j (head_text r bare close) done → HasShownResponse T (beside a f) (beside b g) i j r bare close false
response_cut {T} {a} {b} {i} {j} r bare close f g cut head = record {
  body = r.body;
  is_shown = shown_same r.body;
  written = writes_cut (shown bare r.body) (beside_written f g (subst (HasWritten a b i j (head_text r bare close)) cut head));
}

-- no body is shown
pub response_bare : {T : Type 0} {a b : Device} {i j : ℕ} {done : Bool} (r : Response) (bare close : Bool) (f g : Bool) → bare ≡ true → done ≡ true
    → HasWritten a b i j (head_text r bare close) done → HasShownResponse T (beside a f) (beside b g) i j r bare close true
response_bare {T} {a} {b} {i} {j} r bare close f g none whole head =
    let empty : shown bare r.body ≡ [] = ap (λ x. shown x r.body) none in
    record {
      body = r.body;
      is_shown = shown_same r.body;
      written =
          subst (λ l. HasWritten (beside a f) (beside b g) i j l true) (sym (append-nil (head_text r bare close)) ∙ ap (λ l. head_text r bare close ++ l) (sym empty))
          (beside_written f g (subst (HasWritten a b i j (head_text r bare close)) whole head));
    }

-- the body is shown after the head
pub response_whole : {T : Type 0} {a b : Device} (c : Device) {i j k : ℕ} {first done : Bool} (r : Response) (bare close : Bool) (f g : Bool) → bare ≡ false → first ≡ true
    → HasWritten a b i j (head_text r bare close) first → HasShown T (beside b f) (beside c g) j k r.body done → HasShownResponse T (beside a f) (beside c g) i k r bare close done
response_whole {T} {a} {b} c {i} {j} {k} {first} {done} r bare close f g some whole head body =
    let there : shown bare body.shown ≡ body.shown = ap (λ x. shown x body.shown) some in
    let text : head_text r bare close ++ body.shown ≡ response_text (record r { body = body.shown }) bare close =
    ap (λ l. l ++ body.shown) (head_of r body.shown bare close body.is_shown.as_many) ∙ ap (λ l. head_text (record r { body = body.shown }) bare close ++ l) (sym there) in
    record {
      body = body.shown;
      is_shown = body.is_shown;
      written =
          subst (λ l. HasWritten (beside a f) (beside c g) i k l done) text
          (writes_then (beside_written f f (subst (HasWritten a b i j (head_text r bare close)) whole head)) body.written);
    }

module _ (from : ℕ) (bytes block : List ℕ) (whole : from % 65_536 ≡ 0) (as_many : length block ≡ length (part_at (from / 65_536) bytes)) where
  part_here : part_at (from / 65_536) bytes ≡ take 65_536 (drop from bytes)
  part_here = ap (λ k. take 65_536 (drop k bytes)) (omega (arith, whole))

  -- how many bytes the block from this byte on has
  block_size : length block ≡ min 65_536 (length bytes - from)
  block_size = as_many ∙ ap length part_here ∙ length-take 65_536 (drop from bytes) ∙ ap (min 65_536) (length-drop from bytes)

  -- the block from this byte on is the bytes that are to be written
  block_is : block ≡ part_at (from / 65_536) bytes → block ≡ take (length block) (drop from bytes)
  block_is same =
      same
      ∙ part_here
      ∙ sym (take_min 65_536 (drop from bytes))
      ∙ ap (λ k. take k (drop from bytes)) (ap (min 65_536) (length-drop from bytes) ∙ sym block_size)

-- a buffer has the block from this byte on
pub record IsBlockOf (T : Type 0) (from : ℕ) (bytes block : List ℕ) : Type 0 where
  pub size : length block ≡ min 65_536 (length bytes - from)
  pub within : from + length block ≤ length bytes
  pub same : T → block ≡ take (length block) (drop from bytes)

-- a read that worked finds the block
pub block_of : {T : Type 0} (from : ℕ) (bytes block read : List ℕ) → (from < length bytes → from % 65_536 ≡ 0) → from < length bytes → block ≡ read
    → length read ≡ length (part_at (from / 65_536) bytes) → (T → read ≡ part_at (from / 65_536) bytes) → IsBlockOf T from bytes block
block_of from bytes block read whole inside is as_many same =
    let count = ap length is ∙ as_many in
    let size = block_size from bytes block (whole inside) count in
    record {
      size = size;
      within = omega (arith, size, inside);
      same = λ yes. block_is from bytes block (whole inside) count (is ∙ same yes);
    }
