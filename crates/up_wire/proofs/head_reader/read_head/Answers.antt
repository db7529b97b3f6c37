use Rattle.std.proofs.Common.{◌≡◌, ◌<◌, ◌≤◌, ℕ, List, [], ◌++◌, length, All, false, refl, sym, ap, ◌∙◌, subst, arith, inl, inr}
use Rattle.std.proofs.lemmas.Grind.{common_steps}
use Rattle.httparse.specs.Grammar.{HasNoRequest, NeverHasRequest}
use Rattle.up_wire.specs.Message.{open_yet, failed, IsBlank}
use Rattle.up_wire.specs.Limits.{max_head}
use Rattle.up_wire.specs.Steps.{IsParsed, IsFaultOfPartialHead, IsHeadRead, is_line_end}
use Rattle.up_wire.specs.declared.wire_fault.WireFault.{WireFault}
use Rattle.up_wire.specs.declared.wire_fault.WireFault.TheVariants.{ReadFailed, HeadTooLarge}
use Rattle.up_wire.specs.declared.head.Parsed.TheVariants as Parsed
use Rattle.up_wire.specs.declared.head_reader.HeadRead.TheVariants as HeadRead
use Rattle.up_wire.proofs.Heads.{no_head_at_first}
use Rattle.std.proofs.lemmas.List.Elements.{All-nil}
use Rattle.up_wire.proofs.BlankLines.{IsEnd}
use Rattle.up_wire.proofs.EmptyLines.{whole_head, part_no_head, line_waits, not_same}
use Rattle.up_wire.proofs.Lines.{rest_of}
use Rattle.up_wire.proofs.Counting.{took_none, took_on, took_as, took_so}
use Rattle.up_wire.proofs.head_reader.read_head.Goals as goal

-- a read failed over bytes that are no head
standing_failed : (text : List ℕ) (fault : WireFault) → IsFaultOfPartialHead text ReadFailed fault → HasNoRequest text → length text < max_head
    → IsHeadRead text failed (HeadRead.Fault fault false)
standing_failed text fault (inl (is, may)) none short = subst (λ f. IsHeadRead text failed (HeadRead.Fault f false)) (sym is) ((refl, none, short, may), refl)
standing_failed text fault (inr (inl (is, never))) none short = subst (λ f. IsHeadRead text failed (HeadRead.Fault f false)) (sym is) (inl (omega arith, never), refl)
standing_failed text fault (inr (inr (is, exceeds))) none short = subst (λ f. IsHeadRead text failed (HeadRead.Fault f false)) (sym is) (inl (omega arith, exceeds), refl)

-- the limit was reached over bytes that are no head
standing_full : (text : List ℕ) (fault : WireFault) → IsFaultOfPartialHead text HeadTooLarge fault → HasNoRequest text → length text ≡ max_head
    → IsHeadRead text open_yet (HeadRead.Fault fault false)
standing_full text fault (inl (is, may)) none full = subst (λ f. IsHeadRead text open_yet (HeadRead.Fault f false)) (sym is) (inr (full, none, may), refl)
standing_full text fault (inr (inl (is, never))) none full = subst (λ f. IsHeadRead text open_yet (HeadRead.Fault f false)) (sym is) (inl (omega arith, never), refl)
standing_full text fault (inr (inr (is, exceeds))) none full = subst (λ f. IsHeadRead text open_yet (HeadRead.Fault f false)) (sym is) (inl (omega arith, exceeds), refl)

pub lines-init : goal.lines-init
lines-init g c =
    let none = c.new-text.ensures.items in
    record {
      took = took_as (took_none _ _ c.requires) (sym none);
      short = omega (arith, ap length none);
      no_head = subst HasNoRequest (sym none) no_head_at_first;
      blank = λ not. subst (All IsEnd) (sym none) (All-nil IsEnd);
    }

pub returns-in-Whole-parse : goal.returns-in-Whole-parse
returns-in-Whole-parse g c =
    let old = c.lines.invariant in
    let a = c.in-Whole.ensures.answer in
    let text = c.lines.text.items in
    let same = c.deref-then-is_begun-is_empty.ensures.value ∙ a.is.0 in
    let parsed = subst (λ t. IsParsed t (Parsed.Whole c.in-Whole-parse.head)) same c.in-Whole-parse.ensures in
    let short : length (text ++ a.input) ≤ max_head = omega (arith, ap length a.is.0, c.in-Whole.ensures.within) in
    let alone = whole_head text a.input parsed.0 parsed.1 old.no_head a.is.1.0 short parsed.2 parsed.3 in
    record { input = text ++ a.input; ending = a.ending; took = took_on old.took a.took; is = record { head = parsed.0; is_head = alone; keeps = parsed.4; goes_on = a.is.1.1 } }

pub returns-in-NoMemory-parse : goal.returns-in-NoMemory-parse
returns-in-NoMemory-parse g c =
    let old = c.lines.invariant in
    let a = c.in-Whole.ensures.answer in
    let text = c.lines.text.items in
    let same = c.deref-then-is_begun-is_empty.ensures.value ∙ a.is.0 in
    let parsed = subst (λ t. IsParsed t (Parsed.NoMemory c.in-NoMemory-parse.bare)) same c.in-NoMemory-parse.ensures in
    let short : length (text ++ a.input) ≤ max_head = omega (arith, ap length a.is.0, c.in-Whole.ensures.within) in
    let alone = whole_head text a.input parsed.0 parsed.1 old.no_head a.is.1.0 short parsed.2 parsed.3 in
    record { input = text ++ a.input; ending = a.ending; took = took_on old.took a.took; is = inr (parsed.0, [], alone, parsed.4) }

pub returns-in-Invalid : goal.returns-in-Invalid
returns-in-Invalid g c =
    let old = c.lines.invariant in
    let a = c.in-Whole.ensures.answer in
    let text = c.lines.text.items in
    let same = c.deref-then-is_begun-is_empty.ensures.value ∙ a.is.0 in
    let never = subst NeverHasRequest same c.in-Invalid.ensures in
    let short : length (text ++ a.input) ≤ max_head = omega (arith, ap length a.is.0, c.in-Whole.ensures.within) in
    record { input = text ++ a.input; ending = a.ending; took = took_on old.took a.took; is = subst (IsHeadRead (text ++ a.input) a.ending) (sym c.refuse.ensures) (inl (short, never), refl) }

pub returns-in-TooManyFields : goal.returns-in-TooManyFields
returns-in-TooManyFields g c =
    let old = c.lines.invariant in
    let a = c.in-Whole.ensures.answer in
    let text = c.lines.text.items in
    let same = c.deref-then-is_begun-is_empty.ensures.value ∙ a.is.0 in
    let parsed = subst (λ t. IsParsed t Parsed.TooManyFields) same c.in-TooManyFields.ensures in
    let short : length (text ++ a.input) ≤ max_head = omega (arith, ap length a.is.0, c.in-Whole.ensures.within) in
    record {
      input = text ++ a.input;
      ending = a.ending;
      took = took_on old.took a.took;
      is = subst (IsHeadRead (text ++ a.input) a.ending) (sym c.refuse-in-TooManyFields.ensures) (inl (short, parsed), refl);
    }

pub lines-preserved : goal.lines-preserved
lines-preserved g c =
    let old = c.lines.invariant in
    let a = c.in-Whole.ensures.answer in
    let text = c.lines.text.items in
    let line : c.is_line_end-is_empty.result ≡ is_line_end a.input =
    c.is_line_end-is_empty.ensures ∙ ap is_line_end (rest_of text a.input c.deref.result.now c.len-start.result (c.deref.ensures.value ∙ a.is.0) (omega (arith, c.len-start.ensures))) in
    let waits = line_waits text a.input c.lines.is_begun c.is_line_end-is_empty.result line (not_same c.lines.is_begun c.is_line_end-is_empty.result c.if-is_begun-is_empty.false) old.no_head old.blank a.is.1.0 in
    record {
      took = took_as (took_on old.took (took_so a.took a.is.1.1)) (sym a.is.0);
      short = omega (arith, c.in-Whole.ensures.within);
      no_head = subst HasNoRequest (sym a.is.0) waits.0;
      blank = λ not. subst (All IsEnd) (sym a.is.0) (waits.1 not);
    }

pub fault_of-requires : goal.fault_of-requires
fault_of-requires g c =
    let a = c.in-Full.ensures.answer in
    subst HasNoRequest (sym (c.deref-in-Full.ensures.value ∙ a.is.0)) (part_no_head c.lines.text.items a.input c.lines.invariant.no_head a.is.1.0)

pub returns-in-Full : goal.returns-in-Full
returns-in-Full g c =
    let old = c.lines.invariant in
    let a = c.in-Full.ensures.answer in
    let text = c.lines.text.items in
    let standing = subst (λ t. IsFaultOfPartialHead t HeadTooLarge c.fault_of.result) (c.deref-in-Full.ensures.value ∙ a.is.0) c.fault_of.ensures in
    let full : length (text ++ a.input) ≡ max_head = omega (arith, ap length a.is.0, a.is.1.1) in
    record {
      input = text ++ a.input;
      ending = open_yet;
      took = took_on old.took (took_so a.took a.is.1.2);
      is = subst (IsHeadRead (text ++ a.input) open_yet) (sym c.refuse-in-Full.ensures) (standing_full (text ++ a.input) c.fault_of.result standing (part_no_head text a.input old.no_head a.is.1.0) full);
    }

pub returns-then-is_blank : goal.returns-then-is_blank
returns-then-is_blank g c =
    let old = c.lines.invariant in
    let a = c.in-Ended.ensures.answer in
    let text = c.lines.text.items in
    let blank : IsBlank (text ++ a.input) = subst IsBlank (c.deref-in-Ended.ensures.value ∙ a.is.0) (cc (c.if-is_blank.ensures)) in
    record { input = text ++ a.input; ending = a.ending; took = took_on old.took a.took; is = ((omega (arith, ap length a.is.0, a.is.1.1), blank), a.is.1.2) }

pub returns-in-Ended : goal.returns-in-Ended
returns-in-Ended g c =
    let old = c.lines.invariant in
    let a = c.in-Ended.ensures.answer in
    let text = c.lines.text.items in
    let same = c.deref-in-Ended.ensures.value ∙ a.is.0 in
    record {
      input = text ++ a.input;
      ending = a.ending;
      took = took_on old.took a.took;
      is = subst (IsHeadRead (text ++ a.input) a.ending) (sym c.refuse-in-Ended.ensures)
          (inr (a.is.1.2, part_no_head text a.input old.no_head a.is.1.0, omega (arith, ap length a.is.0, a.is.1.1), λ blank. cc (blank, c.if-is_blank.ensures, same)), refl);
    }

pub fault_of-requires-in-Failed : goal.fault_of-requires-in-Failed
fault_of-requires-in-Failed g c =
    let a = c.in-Failed.ensures.answer in
    subst HasNoRequest (sym (c.deref-in-Failed.ensures.value ∙ a.is.0)) (part_no_head c.lines.text.items a.input c.lines.invariant.no_head a.is.1.0)

pub returns-in-Failed : goal.returns-in-Failed
returns-in-Failed g c =
    let old = c.lines.invariant in
    let a = c.in-Failed.ensures.answer in
    let text = c.lines.text.items in
    let standing = subst (λ t. IsFaultOfPartialHead t ReadFailed c.fault_of-in-Failed.result) (c.deref-in-Failed.ensures.value ∙ a.is.0) c.fault_of-in-Failed.ensures in
    let short : length (text ++ a.input) < max_head = omega (arith, ap length a.is.0, a.is.1.1) in
    record {
      input = text ++ a.input;
      ending = failed;
      took = took_on old.took (took_so a.took a.is.1.2);
      is = subst (IsHeadRead (text ++ a.input) failed) (sym c.refuse-in-Failed.ensures) (standing_failed (text ++ a.input) c.fault_of-in-Failed.result standing (part_no_head text a.input old.no_head a.is.1.0) short);
    }

pub returns-in-NoMemory : goal.returns-in-NoMemory
returns-in-NoMemory g c =
    let old = c.lines.invariant in
    let a = c.in-NoMemory.ensures.answer in
    let text = c.lines.text.items in
    record {
      input = text ++ a.input;
      ending = a.ending;
      took = took_on old.took a.took;
      is = subst (IsHeadRead (text ++ a.input) a.ending) (sym c.refuse-in-NoMemory.ensures) (inl (part_no_head text a.input old.no_head a.is.1.0, refl));
    }

pub slice_bounds-is_line_end-count : goal.slice_bounds-is_line_end-count
slice_bounds-is_line_end-count g c = grind (arith, common_steps)

pub slice_bounds-is_line_end-start : goal.slice_bounds-is_line_end-start
slice_bounds-is_line_end-start g c = grind (arith, common_steps)

pub lines-smaller-then-is_begun-is_empty : goal.lines-smaller-then-is_begun-is_empty
lines-smaller-then-is_begun-is_empty g c = grind (arith, common_steps)

pub lines-preserved-then-is_begun-is_empty : goal.lines-preserved-then-is_begun-is_empty
lines-preserved-then-is_begun-is_empty g c = grind (arith, common_steps)

pub lines-smaller : goal.lines-smaller
lines-smaller g c = grind (arith, common_steps)
