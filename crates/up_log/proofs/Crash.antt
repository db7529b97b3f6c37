-- What a write leaves of a file, also if a crash cuts it short.
use mathlib.Core.Bool.{not}
use Rattle.std.proofs.Common.{◌≡◌, ◌≢◌, ◌⊎◌, Bool, true, false, IsTrue, OnErr, OnOk, Result, Ok, Err, inl, inr, ℕ, ◌+◌, ◌≤◌, ◌<◌, List, [], ◌∷◌, ◌++◌, length, get_or, take, drop, refl, sym, ◌∙◌, ap, subst, arith, append_assoc, length-append, take-append-drop}
use Rattle.std.proofs.lemmas.Bool.{cases_eq}
use Rattle.std.proofs.lemmas.List.{take_at, drop_at, drop_more, drop-drop, ext_get_or, get_or-take, get_or-drop, length-take, length-drop, flat_map_more}
use Rattle.sqlite_disk.specs.Disk.{Holds, Torn}
use Rattle.up_log.specs.declared.entry.Entry.{Entry}
use Rattle.up_log.specs.declared.setup.Setup.{Setup}
use Rattle.up_log.specs.Blocks.{body, block, blocks, beginning, written, IsAtRest, IsClosed, IsLog, IsBeforeOrAfter}

-- what holds anyway holds after an error
pub on_err : {T E P : Type 0} (result : Result T E) → P → OnErr result P
on_err (Ok x) p = tt
on_err (Err e) p = p

pub when_ok : {T E P : Type 0} (result : Result T E) (x : T) → result ≡ Ok x → OnOk result P → P
when_ok {P = P} result x is p = subst (λ r. OnOk r P) is p

pub either_settled : {P : Type 0} (is_settled : Bool) → (IsTrue is_settled → P) → P ⊎ IsTrue (not is_settled)
either_settled true p = inl (p refl)
either_settled false p = inr refl

pub front_same : (at n : ℕ) (old new : List ℕ) → Torn at n old new → at ≤ length old → take at new ≡ take at old
front_same at n old new torn within =
    ext_get_or 0 (take at new) (take at old) (omega (arith, length-take at new, length-take at old, torn.no_shorter))
    (λ i lt. let inside : i < at = omega (arith, length-take at new) in get_or-take at new i 0 inside ∙ torn.below i (omega arith) inside ∙ sym (get_or-take at old i 0 inside))

back_same : (at n : ℕ) (old new : List ℕ) → Torn at n old new → at + n ≤ length old → drop (at + n) new ≡ drop (at + n) old
back_same at n old new torn within =
    let same : length new ≡ length old = omega (arith, torn.no_shorter, torn.no_longer) in
    ext_get_or 0 (drop (at + n) new) (drop (at + n) old) (omega (arith, length-drop (at + n) new, length-drop (at + n) old))
    (λ i lt. get_or-drop (at + n) new i 0 ∙ torn.above (at + n + i) (omega (arith, length-drop (at + n) new)) (omega arith) ∙ sym (get_or-drop (at + n) old i 0))

pub held : (at : ℕ) (file bytes : List ℕ) → Holds file at bytes → drop at file ≡ bytes ++ drop (at + length bytes) file
held at file bytes holds =
    let size : length (take (length bytes) (drop at file)) ≡ length bytes = omega (arith, length-take (length bytes) (drop at file), length-drop at file, holds.within) in
    let front : take (length bytes) (drop at file) ≡ bytes =
    ext_get_or 0 (take (length bytes) (drop at file)) bytes size
    (λ i lt. get_or-take (length bytes) (drop at file) i 0 (omega (arith, size)) ∙ get_or-drop at file i 0 ∙ holds.each i (omega (arith, size))) in
    sym (take-append-drop (length bytes) (drop at file)) ∙ ap (λ (l : List ℕ). l ++ drop (length bytes) (drop at file)) front
    ∙ ap (λ (l : List ℕ). bytes ++ l) (drop-drop (length bytes) at file)

module _ (front : List ℕ) (v : ℕ) (behind : List ℕ) (gate : ℕ) (place : gate ≡ length front) where
  regrouped : (rest : List ℕ) → front ++ v ∷ rest ≡ (front ++ v ∷ []) ++ rest
  regrouped rest = sym (append_assoc front (v ∷ []) rest)

  size : length (front ++ v ∷ []) ≡ gate + 1
  size = omega (arith, length-append front (v ∷ []))

  long : gate + 1 ≤ length (front ++ v ∷ behind)
  long = omega (arith, length-append front (v ∷ behind))

  pub torn_behind : (n : ℕ) (c : List ℕ) → Torn (gate + 1) n (front ++ v ∷ behind) c → c ≡ front ++ v ∷ drop (gate + 1) c
  torn_behind n c torn =
      let same : take (gate + 1) c ≡ front ++ v ∷ [] = front_same (gate + 1) n (front ++ v ∷ behind) c torn long ∙ ap (λ (l : List ℕ). take (gate + 1) l) (regrouped behind) ∙ take_at (front ++ v ∷ []) behind (gate + 1) size in
      sym (take-append-drop (gate + 1) c) ∙ ap (λ (l : List ℕ). l ++ drop (gate + 1) c) same ∙ append_assoc front (v ∷ []) (drop (gate + 1) c)

  pub written_behind : (bytes c : List ℕ) → Torn (gate + 1) (length bytes) (front ++ v ∷ behind) c → Holds c (gate + 1) bytes → c ≡ front ++ v ∷ (bytes ++ drop (gate + 1 + length bytes) c)
  written_behind bytes c torn holds =
      torn_behind (length bytes) c torn
      ∙ ap (λ (l : List ℕ). front ++ v ∷ l) (held (gate + 1) c bytes holds)

  pub torn_gate : (c : List ℕ) → Torn gate 1 (front ++ v ∷ behind) c → c ≡ front ++ get_or c gate 0 ∷ behind
  torn_gate c torn =
      let same : take gate c ≡ front = front_same gate 1 (front ++ v ∷ behind) c torn (omega (arith, long)) ∙ take_at front (v ∷ behind) gate (sym place) in
      let after : drop (gate + 1) c ≡ behind = back_same gate 1 (front ++ v ∷ behind) c torn long ∙ ap (λ (l : List ℕ). drop (gate + 1) l) (regrouped behind) ∙ drop_at (front ++ v ∷ []) behind (gate + 1) size in
      sym (take-append-drop gate c) ∙ ap (λ (l : List ℕ). l ++ drop gate c) same
      ∙ ap (λ (l : List ℕ). front ++ l) (drop_more c gate 0 (omega (arith, torn.no_shorter, long)) ∙ ap (λ (l : List ℕ). get_or c gate 0 ∷ l) after)

  pub written_gate : (c : List ℕ) → Torn gate 1 (front ++ v ∷ behind) c → Holds c gate (1 ∷ []) → c ≡ front ++ 1 ∷ behind
  written_gate c torn holds =
      let here : gate + 0 ≡ gate = omega arith in
      let first : get_or c gate 0 ≡ 1 = ap (λ (k : ℕ). get_or c k 0) (sym here) ∙ holds.each 0 (omega arith) in
      torn_gate c torn ∙ ap (λ (w : ℕ). front ++ w ∷ behind) first

pub closed_by : (gate : ℕ) (rest : List ℕ) → gate ≢ 1 → IsClosed (gate ∷ rest)
closed_by gate [] shut = tt
closed_by gate (next ∷ rest) shut = shut

pub blocks_push : (batches : List (List Entry)) (more : List Entry) → blocks batches ++ block more ≡ blocks (batches ++ more ∷ [])
blocks_push batches more = flat_map_more block [] batches more

-- what stands behind a body that was written: the next gate, closed, and what was there
abbrev pub staged_as : List Entry → List ℕ → List ℕ
staged_as more rest = body more ++ 0 ∷ rest

pub written_push : (setup : Setup) (batches : List (List Entry)) (more : List Entry) → written setup batches ++ block more ≡ written setup (batches ++ more ∷ [])
written_push setup batches more = append_assoc (beginning setup) (blocks batches) (block more) ∙ ap (λ (l : List ℕ). beginning setup ++ l) (blocks_push batches more)

after_gate : (setup : Setup) (batches : List (List Entry)) (more : List Entry) (rest : List ℕ) → written setup batches ++ 1 ∷ staged_as more rest ≡ written setup (batches ++ more ∷ []) ++ 0 ∷ rest
after_gate setup batches more rest = sym (append_assoc (written setup batches) (block more) (0 ∷ rest)) ∙ ap (λ (l : List ℕ). l ++ 0 ∷ rest) (written_push setup batches more)

gate_is : (setup : Setup) (batches : List (List Entry)) (more : List Entry) (rest : List ℕ) (gate : ℕ) → IsBeforeOrAfter setup batches more (written setup batches ++ gate ∷ staged_as more rest)
gate_is setup batches more rest gate = elim (cases_eq gate 1) [
  | inl is_open ↦ inr (record { back = 0 ∷ rest; whole = ap (λ (v : ℕ). written setup batches ++ v ∷ staged_as more rest) is_open ∙ after_gate setup batches more rest; closed = closed_by 0 rest (omega arith) })
  | inr shut ↦ inl (record { back = gate ∷ staged_as more rest; whole = refl; closed = closed_by gate (staged_as more rest) shut })
]

-- a body stands behind the gate
pub record IsStaged (setup : Setup) (file : List ℕ) (batches : List (List Entry)) (more : List Entry) : Type 0 where
  pub gate : ℕ
  pub rest : List ℕ
  pub whole : file ≡ written setup batches ++ gate ∷ staged_as more rest

-- the first write leaves the log as it is
pub stage_leaves : (setup : Setup) (batches : List (List Entry)) (gate n : ℕ) (seen c : List ℕ) → IsAtRest setup seen batches → gate ≡ length (written setup batches) → Torn (gate + 1) n seen c → IsLog setup c batches
stage_leaves setup batches gate n seen c file place torn =
    let torn2 = subst (λ (f : List ℕ). Torn (gate + 1) n f c) file.whole torn in
    record { back = file.gate ∷ drop (gate + 1) c; whole = torn_behind (written setup batches) file.gate file.behind gate place n c torn2; closed = closed_by file.gate (drop (gate + 1) c) file.shut }

-- nor does it open the gate, whatever came of it
pub stage_rests : (setup : Setup) (batches : List (List Entry)) (gate n : ℕ) (seen c : List ℕ) → IsAtRest setup seen batches → gate ≡ length (written setup batches) → Torn (gate + 1) n seen c → IsAtRest setup c batches
stage_rests setup batches gate n seen c file place torn =
    let torn2 = subst (λ (f : List ℕ). Torn (gate + 1) n f c) file.whole torn in
    record { gate = file.gate; behind = drop (gate + 1) c; whole = torn_behind (written setup batches) file.gate file.behind gate place n c torn2; shut = file.shut }

pub staged : (setup : Setup) (batches : List (List Entry)) (more : List Entry) (gate : ℕ) (seen c bytes : List ℕ) → IsAtRest setup seen batches → gate ≡ length (written setup batches) → bytes ≡ body more ++ 0 ∷ [] → Torn (gate + 1) (length bytes) seen c → Holds c (gate + 1) bytes
    → IsStaged setup c batches more
staged setup batches more gate seen c bytes file place are torn holds =
    let left = drop (gate + 1 + length bytes) c in
    record {
      gate = file.gate;
      rest = left;
      whole = written_behind (written setup batches) file.gate file.behind gate place bytes c (subst (λ (f : List ℕ). Torn (gate + 1) (length bytes) f c) file.whole torn) holds
          ∙ ap (λ (l : List ℕ). written setup batches ++ file.gate ∷ l) (ap (λ (l : List ℕ). l ++ left) are ∙ append_assoc (body more) (0 ∷ []) left);
    }

-- the second leaves it with the batch or without
pub gate_leaves : (setup : Setup) (batches : List (List Entry)) (more : List Entry) (gate : ℕ) (seen c : List ℕ) → IsStaged setup seen batches more → gate ≡ length (written setup batches) → Torn gate 1 seen c → IsBeforeOrAfter setup batches more c
gate_leaves setup batches more gate seen c file place torn =
    let torn2 = subst (λ (f : List ℕ). Torn gate 1 f c) file.whole torn in
    subst (IsBeforeOrAfter setup batches more) (sym (torn_gate (written setup batches) file.gate (staged_as more file.rest) gate place c torn2)) (gate_is setup batches more file.rest (get_or c gate 0))

pub opened : (setup : Setup) (batches : List (List Entry)) (more : List Entry) (gate : ℕ) (seen c : List ℕ) → IsStaged setup seen batches more → gate ≡ length (written setup batches) → Torn gate 1 seen c → Holds c gate (1 ∷ []) → IsAtRest setup c (batches ++ more ∷ [])
opened setup batches more gate seen c file place torn holds = record {
  gate = 0;
  behind = file.rest;
  whole = written_gate (written setup batches) file.gate (staged_as more file.rest) gate place c (subst (λ (f : List ℕ). Torn gate 1 f c) file.whole torn) holds ∙ after_gate setup batches more file.rest;
  shut = omega arith;
}

-- where the next block begins
pub next_place : (setup : Setup) (batches : List (List Entry)) (more : List Entry) (gate n : ℕ) (bytes : List ℕ) → gate ≡ length (written setup batches) → bytes ≡ body more ++ 0 ∷ [] → n ≡ gate + length bytes → n ≡ length (written setup (batches ++ more ∷ []))
next_place setup batches more gate n bytes place are is =
    let size : length bytes ≡ length (block more) = ap length are ∙ omega (arith, length-append (body more) (0 ∷ [])) in
    is ∙ omega (arith, place, size, length-append (written setup batches) (block more)) ∙ ap length (written_push setup batches more)
