-- Writing a block piece by piece.
use Rattle.std.proofs.Common.{◌≡◌, ◌+◌, ◌<◌, ◌≤◌, ◌-◌, ℕ, List, [], ◌∷◌, ◌++◌, length, get_or, take, Result, Ok, Err, IfOk, OnOk, inl, inr, refl, sym, ◌∙◌, ap, subst, arith, append_assoc, append-nil, length-append}
use Rattle.std.proofs.lemmas.Bool.{cases_lt}
use Rattle.std.proofs.lemmas.List.{flat_map_more, get_or_append_left, get_or-append-add, take_all, take_more}
use Rattle.std.proofs.lemmas.List.Folds.{length-flat_map-take}
use Rattle.std.specs.List.{flat_map}
use Rattle.sqlite_disk.specs.Disk.{Holds, Only, Torn}
use Rattle.sqlite_disk.specs.declared.Disk.{Ghosts}
use Rattle.sqlite_disk.proofs.EventLemmas.{Torn-within}
use Rattle.up_log.specs.declared.entry.Entry.{Entry}
use Rattle.up_log.specs.declared.fault.LogFault.{LogFault}
use Rattle.up_log.specs.declared.setup.Setup.{Setup}
use Rattle.up_log.specs.Blocks.{body, written, IsAtRest, IsBeforeOrAfter, IsLog}
use Rattle.up_log.specs.Spelling.{batch, entry, word}
use Rattle.up_log.specs.Staging.{body_front, closed_body, IsStagedTo, IsTouched}
use Rattle.up_log.proofs.Crash.{IsStaged, gate_leaves, stage_leaves, stage_rests, staged}

-- what a write adds at the end of bytes that a file holds
module _ (start : ℕ) (bytes more old new : List ℕ) (first : 0 < length bytes → Holds old start bytes) (torn : Torn (start + length bytes) (length more) old new) (second : 0 < length more → Holds new (start + length bytes) more) where
  reaches : 0 < length (bytes ++ more) → start + length (bytes ++ more) ≤ length new
  reaches some = elim (cases_lt 0 (length more)) [
    | inl long ↦ omega (arith, length-append bytes more, (second long).within)
    | inr none ↦ omega (arith, length-append bytes more, (first (omega (arith, some, length-append bytes more))).within, torn.no_shorter)
  ]

  each : (i : ℕ) → i < length (bytes ++ more) → get_or new (start + i) 0 ≡ get_or (bytes ++ more) i 0
  each i low = elim (cases_lt i (length bytes)) [
    | inl early ↦
        let was = first (omega (arith, early)) in
        torn.below (start + i) (omega (arith, was.within, early)) (omega (arith, early)) ∙ was.each i early ∙ sym (get_or_append_left bytes more 0 i early)
    | inr late ↦
        let at : length bytes + (i - length bytes) ≡ i = omega (arith, late) in
        let inside : i - length bytes < length more = omega (arith, low, late, length-append bytes more) in
        let there : start + length bytes + (i - length bytes) ≡ start + i = omega (arith, late) in
        ap (λ (k : ℕ). get_or new k 0) (sym there) ∙ (second (omega (arith, inside))).each (i - length bytes) inside
        ∙ sym (get_or-append-add bytes more (i - length bytes) 0) ∙ ap (λ (k : ℕ). get_or (bytes ++ more) k 0) at
  ]

  pub holds_more : 0 < length (bytes ++ more) → Holds new start (bytes ++ more)
  holds_more some = record { within = reaches some; each = each }

module _ {D : Type 0} (g : Ghosts D) (start size : ℕ) where
  pub touched_more : (at n : ℕ) (old mid new : D) → IsTouched g start size old mid → start ≤ at → at + n ≤ start + size → Torn at n (g.seen mid) (g.seen new)
      → ((c : List ℕ) → g.may_leave new c → (before : List ℕ) × g.may_leave mid before × Torn at n before c) → g.is_clean new ≡ g.is_clean mid → IsTouched g start size old new
  touched_more at n old mid new was low high torn crash calm = record {
    others = Torn-within start size at n (g.seen old) (g.seen mid) (g.seen new) low high was.others torn;
    crash = λ c now. let then = crash c now in let first = was.crash then.0 then.1 in (first.0, first.1, Torn-within start size at n first.0 then.0 c low high first.2 then.2);
    calm = calm ∙ was.calm;
  }

  -- bytes that are put into the room
  pub put_more : (done more : List ℕ) (old new : D) (at : ℕ) (room : List ℕ) → IsStagedTo g start size done old new at room → IsStagedTo g start size (done ++ more) old new at (room ++ more)
  put_more done more old new at room was = record {
    bytes = was.bytes;
    place = was.place;
    parts = sym (append_assoc was.bytes room more) ∙ ap (λ (l : List ℕ). l ++ more) was.parts;
    held = was.held;
    touched = was.touched;
  }

  module _ (done : List ℕ) (old mid new : D) (at : ℕ) (room : List ℕ) (was : IsStagedTo g start size done old mid at room) (fits : length done ≤ size) (torn : Torn at (length room) (g.seen mid) (g.seen new))
      (crash : (c : List ℕ) → g.may_leave new c → (before : List ℕ) × g.may_leave mid before × Torn at (length room) before c) (calm : g.is_clean new ≡ g.is_clean mid) where
    in_all : length was.bytes + length room ≤ size
    in_all = omega (arith, fits, ap length was.parts, length-append was.bytes room)

    -- a write of what is in the room, whatever came of it
    pub flush_touches : IsTouched g start size old new
    flush_touches = touched_more at (length room) old mid new was.touched (omega (arith, was.place)) (omega (arith, was.place, in_all)) torn crash calm

    -- and one that came to its end
    pub flushed : (next : ℕ) → next ≡ at + length room → (0 < length room → Holds (g.seen new) at room) → IsStagedTo g start size done old new next []
    flushed next is held = record {
      bytes = was.bytes ++ room;
      place = is ∙ omega (arith, was.place, length-append was.bytes room);
      parts = append-nil (was.bytes ++ room) ∙ was.parts;
      held = holds_more start was.bytes room (g.seen mid) (g.seen new) was.held (subst (λ (k : ℕ). Torn k (length room) (g.seen mid) (g.seen new)) was.place torn)
          (λ some. subst (λ (k : ℕ). Holds (g.seen new) k room) was.place (held some));
      touched = flush_touches;
    }

    pub if_flushed : (result : Result ℕ LogFault) → IfOk result (λ next. next ≡ at + length room) → OnOk result (0 < length room → Holds (g.seen new) at room) → IfOk result (λ next. IsStagedTo g start size done old new next [])
    if_flushed (Ok next) is held = flushed next is held
    if_flushed (Err fault) is held = tt

  -- when everything was written
  pub all_held : (done : List ℕ) (old new : D) (at : ℕ) → IsStagedTo g start size done old new at [] → 0 < length done → Holds (g.seen new) start done
  all_held done old new at was some =
      let are : was.bytes ≡ done = sym (append-nil was.bytes) ∙ was.parts in
      subst (λ (l : List ℕ). Holds (g.seen new) start l) are (was.held (omega (arith, some, ap length are)))

-- the bytes of a block, entry by entry
module _ (entries : List Entry) where
  -- the bytes before the entry of this place
  abbrev pub before : ℕ → List ℕ
  before i = body_front entries ++ flat_map entry (take i entries)

  whole : closed_body entries ≡ (body_front entries ++ flat_map entry entries) ++ 0 ∷ []
  whole = ap (λ (l : List ℕ). l ++ 0 ∷ []) (sym (append_assoc (word (length (batch entries))) (word (length entries)) (flat_map entry entries)))

  module _ (i : ℕ) (x : Entry) (is : x ≡ get_or entries i x) (within : i < length entries) where
    pub entry_fits : length (before i) + length (entry x) ≤ length (closed_body entries)
    entry_fits =
        let fits = subst (λ (e : Entry). length (flat_map entry (take i entries)) + length (entry e) ≤ length (flat_map entry entries)) (sym is) (length-flat_map-take entry entries i x within) in
        omega (arith, fits, ap length whole, length-append (body_front entries ++ flat_map entry entries) (0 ∷ []), length-append (body_front entries) (flat_map entry entries), length-append (body_front entries) (flat_map entry (take i entries)))

    pub before_next : before i ++ entry x ≡ before (i + 1)
    before_next =
        flat_map_more entry (body_front entries) (take i entries) x
        ∙ ap (λ (l : List Entry). body_front entries ++ flat_map entry l) (ap (λ (e : Entry). take i entries ++ e ∷ []) is ∙ sym (take_more entries i x within))

  pub before_end : (i : ℕ) → length entries ≤ i → before i ++ 0 ∷ [] ≡ closed_body entries
  before_end i past = ap (λ (l : List Entry). (body_front entries ++ flat_map entry l) ++ 0 ∷ []) (take_all i entries past) ∙ sym whole

-- what is after a gate, once the closed gate is put behind the last entry
module _ {D : Type 0} (g : Ghosts D) (gate : ℕ) (entries : List Entry) (old mid new : D) (at i : ℕ) (room last : List ℕ) (past : length entries ≤ i) (is : last ≡ room ++ 0 ∷ [])
    (was : IsStagedTo g (gate + 1) (length (closed_body entries)) (before entries i) old mid at room) (torn : Torn at (length last) (g.seen mid) (g.seen new))
    (crash : (c : List ℕ) → g.may_leave new c → (before : List ℕ) × g.may_leave mid before × Torn at (length last) before c) (calm : g.is_clean new ≡ g.is_clean mid) where
  abbrev size : ℕ
  size = length (closed_body entries)

  all_put : IsStagedTo g (gate + 1) size (closed_body entries) old mid at last
  all_put = subst (IsStagedTo g (gate + 1) size (closed_body entries) old mid at) (sym is)
      (subst (λ (l : List ℕ). IsStagedTo g (gate + 1) size l old mid at (room ++ 0 ∷ [])) (before_end entries i past) (put_more g (gate + 1) size (before entries i) (0 ∷ []) old mid at room was))

  pub end_touches : IsTouched g (gate + 1) size old new
  end_touches = flush_touches g (gate + 1) size (closed_body entries) old mid new at last all_put (omega arith) torn crash calm

  pub end_held : (next : ℕ) → next ≡ at + length last → (0 < length last → Holds (g.seen new) at last) → Holds (g.seen new) (gate + 1) (closed_body entries)
  end_held next next_is held =
      all_held g (gate + 1) size (closed_body entries) old new next (flushed g (gate + 1) size (closed_body entries) old mid new at last all_put (omega arith) torn crash calm next next_is held) (omega (arith, length-append (body entries) (0 ∷ [])))

-- what a body leaves of a log at rest
module _ {D : Type 0} (g : Ghosts D) (setup : Setup) (batches : List (List Entry)) (more : List Entry) (gate : ℕ) (old mid : D) (file : IsAtRest setup (g.seen old) batches) (place : gate ≡ length (written setup batches))
    (touched : IsTouched g (gate + 1) (length (closed_body more)) old mid) where
  pub body_rests : IsAtRest setup (g.seen mid) batches
  body_rests = stage_rests setup batches gate (length (closed_body more)) (g.seen old) (g.seen mid) file place touched.others

  pub body_leaves : Only (g.seen old) (g.may_leave old) → (c : List ℕ) → g.may_leave mid c → IsLog setup c batches
  body_leaves only c now =
      let from = touched.crash c now in
      stage_leaves setup batches gate (length (closed_body more)) from.0 c (subst (λ (f : List ℕ). IsAtRest setup f batches) (sym (only from.0 from.1)) file) place from.2

  module _ (held : Holds (g.seen mid) (gate + 1) (closed_body more)) where
    pub body_stands : IsStaged setup (g.seen mid) batches more
    body_stands = staged setup batches more gate (g.seen old) (g.seen mid) (closed_body more) file place refl touched.others held

    -- and what its gate leaves
    pub opening_leaves : (new : D) → Only (g.seen mid) (g.may_leave mid) → ((c : List ℕ) → g.may_leave new c → (before : List ℕ) × g.may_leave mid before × Torn gate 1 before c)
        → (c : List ℕ) → g.may_leave new c → IsBeforeOrAfter setup batches more c
    opening_leaves new only crash c now =
        let from = crash c now in
        gate_leaves setup batches more gate from.0 c (subst (λ (f : List ℕ). IsStaged setup f batches more) (sym (only from.0 from.1)) body_stands) place from.2
