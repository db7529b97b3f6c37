-- What a crash leaves of a heading that is being written, and what is read of one.
use Rattle.std.proofs.Common.{◌≡◌, ◌≢◌, inl, inr, ℕ, suc, ◌+◌, ◌≤◌, ◌<◌, min, List, [], ◌∷◌, ◌++◌, length, get_or, take, drop, refl, sym, ◌∙◌, ap, subst, arith, append_assoc, length-append, take-append-drop, append-nil}
use Rattle.std.proofs.lemmas.Bool.{cases_eq}
use Rattle.std.proofs.lemmas.List.{drop_all, length-drop, length-take, take_all, take_at, take_min}
use Rattle.sqlite_disk.specs.Disk.{Holds, Torn}
use Rattle.up_log.specs.declared.entry.Entry.{Entry}
use Rattle.up_log.specs.declared.setup.Setup.{Setup}
use Rattle.up_log.specs.Spelling.{word}
use Rattle.up_log.specs.Blocks.{blocks, heading, beginning, IsBegun, IsFileOf, IsLog, IsShut, IsUnfinished}
use Rattle.up_log.proofs.Crash.{held, torn_behind, torn_gate, written_behind, written_gate}

length_heading : (setup : Setup) → length (heading setup) ≡ 32
unfolding heading word
length_heading setup = refl

beginning_is : (setup : Setup) → beginning setup ≡ 1 ∷ heading setup
unfolding beginning
beginning_is setup = refl

length_closed : (setup : Setup) (closed : List ℕ) → closed ≡ heading setup ++ 0 ∷ [] → length closed ≡ 33
length_closed setup closed are = omega (arith, ap length are, length-append (heading setup) (0 ∷ []), length_heading setup)

begun : (setup : Setup) (gate : ℕ) (behind : List ℕ) → IsBegun setup gate behind → IsUnfinished setup (gate ∷ behind)
begun setup gate [] is = tt
begun setup gate (next ∷ rest) is = is

pub short_is : (setup : Setup) (file : List ℕ) → length file < 2 → IsUnfinished setup file × (length file ≤ 34)
short_is setup [] short = (tt, omega arith)
short_is setup (gate ∷ []) short = (tt, omega arith)
short_is setup (gate ∷ next ∷ rest) short = absurd (omega arith)

pub zero_is : (setup : Setup) (file : List ℕ) → 2 ≤ length file → get_or file 0 0 ≡ 0 → length file ≤ 34 → IsUnfinished setup file × (length file ≤ 34)
zero_is setup [] long first short = absurd (omega arith)
zero_is setup (gate ∷ []) long first short = absurd (omega arith)
zero_is setup (gate ∷ next ∷ rest) long first short = (inl (first, omega arith), short)

pub whole_is : (setup : Setup) (file closed : List ℕ) → 2 ≤ length file → closed ≡ heading setup ++ 0 ∷ [] → get_or file 0 0 ≢ 1 → drop 1 file ≡ closed → IsUnfinished setup file × (length file ≤ 34)
whole_is setup [] closed long are first behind = absurd (omega arith)
whole_is setup (gate ∷ []) closed long are first behind = absurd (omega arith)
whole_is setup (gate ∷ next ∷ rest) closed long are first behind =
    (inr (first, behind ∙ are), omega (arith, ap length behind, length_closed setup closed are))

-- for `is_unfinished`
pub ruleset unfinished_is = (short_is, zero_is, whole_is)

unfinished_short : (setup : Setup) (file : List ℕ) → IsUnfinished setup file → length file ≤ 34
unfinished_short setup [] is = omega arith
unfinished_short setup (gate ∷ []) is = omega arith
unfinished_short setup (gate ∷ next ∷ rest) (inl is) = omega (arith, is.1)
unfinished_short setup (gate ∷ next ∷ rest) (inr is) = omega (arith, length_closed setup (next ∷ rest) is.1)

pub already_shut : (setup : Setup) (file : List ℕ) → IsUnfinished setup file → get_or file 0 1 ≡ 0 → IsShut file
already_shut setup [] is first = absurd (omega (arith, first))
already_shut setup (gate ∷ []) is first = record { rest = []; whole = ap (λ (v : ℕ). v ∷ []) first; short = omega arith }
already_shut setup (gate ∷ next ∷ rest) is first = record {
  rest = next ∷ rest;
  whole = ap (λ (v : ℕ). v ∷ next ∷ rest) first;
  short = omega (arith, unfinished_short setup (gate ∷ next ∷ rest) is);
}

-- a heading behind whatever gate
staged_is : (setup : Setup) (v : ℕ) (closed : List ℕ) → closed ≡ heading setup ++ 0 ∷ [] → IsFileOf setup [] (v ∷ closed)
staged_is setup v closed are = elim (cases_eq v 1) [
  | inl is_open ↦ inl (record {
    back = 0 ∷ [];
    whole = ap (λ (w : ℕ). w ∷ closed) is_open ∙ ap (λ (l : List ℕ). 1 ∷ l) are ∙ ap (λ (l : List ℕ). l ++ 0 ∷ []) (sym (beginning_is setup) ∙ sym (append-nil (beginning setup)));
    closed = tt;
  })
  | inr shut ↦ inr (refl, begun setup v closed (inr (shut, are)))
]

pub shut_leaves : (setup : Setup) (file c : List ℕ) → IsUnfinished setup file → get_or file 0 1 ≢ 0 → Torn 0 1 file c → IsFileOf setup [] c
shut_leaves setup [] c is first torn = inr (refl, (short_is setup c (omega (arith, torn.no_longer))).0)
shut_leaves setup (gate ∷ []) c is first torn = inr (refl, (short_is setup c (omega (arith, torn.no_longer))).0)
shut_leaves setup (gate ∷ next ∷ rest) c (inl is) first torn = absurd (first is.0)
shut_leaves setup (gate ∷ next ∷ rest) c (inr is) first torn =
    subst (IsFileOf setup []) (sym (torn_gate [] gate (next ∷ rest) 0 refl c torn)) (staged_is setup (get_or c 0 0) (next ∷ rest) is.1)

pub shut_now : (setup : Setup) (file c : List ℕ) → IsUnfinished setup file → Torn 0 1 file c → Holds c 0 (0 ∷ []) → IsShut c
shut_now setup file c is torn holds = record {
  rest = drop 1 c;
  whole = held 0 c (0 ∷ []) holds;
  short = omega (arith, length-drop 1 c, torn.no_longer, unfinished_short setup file is);
}

shut_unfinished : (setup : Setup) (file : List ℕ) → IsShut file → IsUnfinished setup file
shut_unfinished setup file is = subst (IsUnfinished setup) (sym is.whole) (begun setup 0 is.rest (inl (refl, is.short)))

pub write_leaves : (setup : Setup) (file closed c : List ℕ) → closed ≡ heading setup ++ 0 ∷ [] → IsShut file → Torn 1 (length closed) file c → IsFileOf setup [] c
write_leaves setup file closed c are is torn =
    let torn2 = subst (λ (f : List ℕ). Torn 1 (length closed) f c) is.whole torn in
    inr (
      refl,
      shut_unfinished setup c (record {
        rest = drop 1 c;
        whole = torn_behind [] 0 is.rest 0 refl (length closed) c torn2;
        short = omega (arith, length-drop 1 c, torn2.no_longer, is.short, length_closed setup closed are);
      }),
    )

pub write_now : (setup : Setup) (file closed c : List ℕ) → closed ≡ heading setup ++ 0 ∷ [] → IsShut file → Torn 1 (length closed) file c → Holds c 1 closed → c ≡ 0 ∷ closed
write_now setup file closed c are is torn holds =
    let torn2 = subst (λ (f : List ℕ). Torn 1 (length closed) f c) is.whole torn in
    let none : drop (1 + length closed) c ≡ [] = drop_all (1 + length closed) c (omega (arith, torn2.no_longer, is.short, length_closed setup closed are)) in
    written_behind [] 0 is.rest 0 refl closed c torn2 holds
    ∙ ap (λ (l : List ℕ). 0 ∷ (closed ++ l)) none ∙ ap (λ (l : List ℕ). 0 ∷ l) (append-nil closed)

pub gate_leaves : (setup : Setup) (seen closed c : List ℕ) → closed ≡ heading setup ++ 0 ∷ [] → seen ≡ 0 ∷ closed → Torn 0 1 seen c → IsFileOf setup [] c
gate_leaves setup seen closed c are is torn =
    let torn2 = subst (λ (f : List ℕ). Torn 0 1 f c) is torn in
    subst (IsFileOf setup []) (sym (torn_gate [] 0 closed 0 refl c torn2)) (staged_is setup (get_or c 0 0) closed are)

pub opened_now : (setup : Setup) (seen closed c : List ℕ) → closed ≡ heading setup ++ 0 ∷ [] → seen ≡ 0 ∷ closed → Torn 0 1 seen c → Holds c 0 (1 ∷ []) → c ≡ beginning setup ++ 0 ∷ []
opened_now setup seen closed c are is torn holds =
    let torn2 = subst (λ (f : List ℕ). Torn 0 1 f c) is torn in
    written_gate [] 0 closed 0 refl c torn2 holds ∙ ap (λ (l : List ℕ). 1 ∷ l) are ∙ ap (λ (l : List ℕ). l ++ 0 ∷ []) (sym (beginning_is setup))

-- the bytes that are looked at
pub front_is : (file : List ℕ) (n count : ℕ) (bytes : List ℕ) → n ≡ length file → count ≡ min 35 n → bytes ≡ take count file → bytes ≡ take 35 file
front_is file n count bytes len is are = are ∙ ap (λ (k : ℕ). take k file) (is ∙ ap (λ (k : ℕ). min 35 k) len) ∙ take_min 35 file

pub no_front : (file : List ℕ) (n count : ℕ) → n ≡ length file → count ≡ min 35 n → count ≡ 0 → [] ≡ take 35 file
no_front file n count len is none = front_is file n count [] len is (sym (ap (λ (k : ℕ). take k file) none))

pub front_whole : (file front : List ℕ) → front ≡ take 35 file → length front ≤ 34 → front ≡ file
front_whole file front are short =
    are ∙ take_all 35 file (omega (arith, ap length are, length-take 35 file))

pub begins_ours : (setup : Setup) (file front opened : List ℕ) → front ≡ take 35 file → take (length opened) front ≡ opened → opened ≡ beginning setup
    → (rest : List ℕ) × (file ≡ beginning setup ++ rest)
begins_ours setup file front opened are begins is = (
  drop (length opened) front ++ drop 35 file,
  sym (take-append-drop 35 file) ∙ ap (λ (l : List ℕ). l ++ drop 35 file) (sym are ∙ sym (take-append-drop (length opened) front) ∙ ap (λ (l : List ℕ). l ++ drop (length opened) front) (begins ∙ is))
      ∙ append_assoc (beginning setup) (drop (length opened) front) (drop 35 file),
)

-- a file with a whole heading has no unfinished one
not_both : (setup : Setup) (file rest : List ℕ) → file ≡ beginning setup ++ rest → IsUnfinished setup file → ⊥
not_both setup [] rest is unfinished = omega (arith, ap length is, length-append (beginning setup) rest, ap length (beginning_is setup), length_heading setup)
not_both setup (gate ∷ []) rest is unfinished = omega (arith, ap length is, length-append (beginning setup) rest, ap length (beginning_is setup), length_heading setup)
not_both setup (gate ∷ next ∷ others) rest is (inl unfinished) =
    omega (arith, unfinished.0, ap (λ (l : List ℕ). get_or l 0 0) (is ∙ ap (λ (l : List ℕ). l ++ rest) (beginning_is setup)))
not_both setup (gate ∷ next ∷ others) rest is (inr unfinished) =
    unfinished.0 (ap (λ (l : List ℕ). get_or l 0 0) (is ∙ ap (λ (l : List ℕ). l ++ rest) (beginning_is setup)))

pub log_by : (setup : Setup) (batches : List (List Entry)) (file rest : List ℕ) → file ≡ beginning setup ++ rest → IsFileOf setup batches file → IsLog setup file batches
log_by setup batches file rest is (inl log) = log
log_by setup batches file rest is (inr unfinished) = absurd (not_both setup file rest is unfinished.1)

pub none_yet : (setup : Setup) (batches : List (List Entry)) (file : List ℕ) → IsUnfinished setup file → IsFileOf setup batches file → batches ≡ []
none_yet setup batches file unfinished (inl log) =
    absurd (not_both setup file (blocks batches ++ log.back) (log.whole ∙ append_assoc (beginning setup) (blocks batches) log.back) unfinished)
none_yet setup batches file unfinished (inr is) = is.0

pub new_log : (setup : Setup) (batches : List (List Entry)) (file : List ℕ) → batches ≡ [] → file ≡ beginning setup ++ 0 ∷ [] → IsLog setup file batches
new_log setup batches file none is = subst (IsLog setup file) (sym none) (record {
  back = 0 ∷ [];
  whole = is ∙ ap (λ (l : List ℕ). l ++ 0 ∷ []) (sym (append-nil (beginning setup)));
  closed = tt;
})

-- the parts of a heading that was spelled
pub opened_is : (setup : Setup) (whole opened : List ℕ) → whole ≡ beginning setup ++ 0 ∷ [] → opened ≡ take 33 whole → opened ≡ beginning setup
opened_is setup whole opened is are =
    are ∙ ap (λ (l : List ℕ). take 33 l) is ∙ take_at (beginning setup) (0 ∷ []) 33 (ap length (beginning_is setup) ∙ ap suc (length_heading setup))

pub closed_is : (setup : Setup) (whole closed : List ℕ) → whole ≡ beginning setup ++ 0 ∷ [] → closed ≡ drop 1 whole → closed ≡ heading setup ++ 0 ∷ []
closed_is setup whole closed is are = are ∙ ap (λ (l : List ℕ). drop 1 l) (is ∙ ap (λ (l : List ℕ). l ++ 0 ∷ []) (beginning_is setup))

pub new_len : (setup : Setup) (file : List ℕ) (n : ℕ) → file ≡ beginning setup ++ 0 ∷ [] → n ≡ 34 → n ≡ length file
new_len setup file n is are =
    omega (arith, are, ap length is, length-append (beginning setup) (0 ∷ []), ap length (beginning_is setup), length_heading setup)

pub beginning_length : (setup : Setup) → 33 ≡ length (beginning setup)
beginning_length setup = omega (arith, ap length (beginning_is setup), length_heading setup)
