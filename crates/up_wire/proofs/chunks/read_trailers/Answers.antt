use Rattle.std.proofs.Common.{◌≡◌, ◌<◌, ◌≤◌, ◌++◌, length, take, ◌⊎◌, sym, ap, ◌∙◌, subst, arith, inl, inr}
use Rattle.std.proofs.lemmas.Grind.{common_steps}
use Rattle.httparse.specs.Grammar.{HasNoSection}
use Rattle.up_wire.specs.Limits.{max_head}
use Rattle.up_wire.specs.declared.body.BodyEnd.TheVariants as BodyEnd
use Rattle.up_wire.specs.declared.chunks.Trailers.TheVariants as Trailers
use Rattle.up_wire.specs.Steps.{AreParsed, IsStopBehind, is_line_end}
use Rattle.up_wire.proofs.ChunkedTexts.{trailers_alone}
use Rattle.up_wire.proofs.EmptyLines.{section_at_line, part_no_section, line_no_section, trailers_stop}
use Rattle.up_wire.proofs.Lines.{rest_of, front_of}
use Rattle.up_wire.proofs.Counting.{took_on, took_as, took_so}
use Rattle.up_wire.proofs.chunks.read_trailers.Goals as goal

bad_so_far : {A B C : Type 0} → A ⊎ B → A ⊎ (B ⊎ C)
bad_so_far (inl a) = inl a
bad_so_far (inr b) = inr (inl b)

pub returns-in-Bad : goal.returns-in-Bad
returns-in-Bad g c =
    let old = c.lines.invariant in
    let a = c.in-Whole.ensures.answer in
    let text = c.lines.text.items in
    let bad = subst (λ t. AreParsed t Trailers.Bad) (c.deref-then-start-eq0.ensures.value ∙ a.is.0) c.in-Bad.ensures in
    let short : length (text ++ a.input) ≤ max_head = omega (arith, ap length a.is.0, c.in-Whole.ensures.within) in
    record { input = text ++ a.input; ending = a.ending; took = took_on old.took a.took; is = (short, bad_so_far bad) }

pub returns-in-Whole-parse_trailers : goal.returns-in-Whole-parse_trailers
returns-in-Whole-parse_trailers g c =
    let old = c.lines.invariant in
    let a = c.in-Whole.ensures.answer in
    let text = c.lines.text.items in
    let found = subst (λ t. AreParsed t Trailers.Whole) (c.deref-then-start-eq0.ensures.value ∙ a.is.0) c.in-Whole-parse_trailers.ensures in
    let whole = section_at_line text a.input found.0 found.1 found.2 old.no_section a.is.1.0 found.3 in
    let short : length (text ++ a.input) ≤ max_head = omega (arith, ap length a.is.0, c.in-Whole.ensures.within) in
    record { input = text ++ a.input; ending = a.ending; took = took_on old.took a.took; is = (trailers_alone (text ++ a.input) found.0 found.1 found.2 found.3 whole short found.4, a.is.1.1) }

pub lines-preserved-in-Whole : goal.lines-preserved-in-Whole
lines-preserved-in-Whole g c =
    let old = c.lines.invariant in
    let a = c.in-Whole.ensures.answer in
    let found = subst (λ t. AreParsed t Trailers.Partial) c.deref-then-start-eq0.ensures.value c.in-Partial.ensures in
    record {
      took = took_as (took_on old.took (took_so a.took a.is.1.1)) (sym a.is.0);
      short = omega (arith, c.in-Whole.ensures.within);
      no_section = found.0;
    }

pub lines-preserved : goal.lines-preserved
lines-preserved g c =
    let old = c.lines.invariant in
    let a = c.in-Whole.ensures.answer in
    let text = c.lines.text.items in
    let line : c.is_line_end.result ≡ is_line_end a.input =
    c.is_line_end.ensures ∙ ap is_line_end (rest_of text a.input c.deref.result.now c.len-start.result (c.deref.ensures.value ∙ a.is.0) (omega (arith, c.len-start.ensures))) in
    record {
      took = took_as (took_on old.took (took_so a.took a.is.1.1)) (sym a.is.0);
      short = omega (arith, c.in-Whole.ensures.within);
      no_section = subst HasNoSection (sym a.is.0) (line_no_section text a.input old.no_section a.is.1.0 (sym line ∙ c.if-is_line_end.false));
    }

pub returns-in-Full : goal.returns-in-Full
returns-in-Full g c =
    let old = c.lines.invariant in
    let a = c.in-Full.ensures.answer in
    let text = c.lines.text.items in
    let full : length (text ++ a.input) ≡ max_head = omega (arith, ap length a.is.0, a.is.1.1) in
    record { input = text ++ a.input; ending = a.ending; took = took_on old.took a.took; is = (omega (arith, full), inr (inr (full, part_no_section text a.input old.no_section a.is.1.0))) }

pub returns-in-Ended : goal.returns-in-Ended
returns-in-Ended g c =
    let old = c.lines.invariant in
    let a = c.in-Ended.ensures.answer in
    let text = c.lines.text.items in
    let lines : take c.len-start.result c.deref-in-Ended.result.now ≡ text = front_of text a.input c.deref-in-Ended.result.now c.len-start.result (c.deref-in-Ended.ensures.value ∙ a.is.0) (omega (arith, c.len-start.ensures)) in
    let stop = subst (λ t. IsStopBehind t BodyEnd.Ended c.stop_behind.result) lines c.stop_behind.ensures in
    let short : length (text ++ a.input) < max_head = omega (arith, ap length a.is.0, a.is.1.1) in
    record { input = text ++ a.input; ending = a.ending; took = took_on old.took a.took; is = trailers_stop text a.input a.ending BodyEnd.Ended c.stop_behind.result stop old.no_section a.is.1.0 short (λ cut. (cut, a.is.1.2)) }

pub returns-in-Failed : goal.returns-in-Failed
returns-in-Failed g c =
    let old = c.lines.invariant in
    let a = c.in-Failed.ensures.answer in
    let text = c.lines.text.items in
    let lines : take c.len-start.result c.deref-in-Failed.result.now ≡ text = front_of text a.input c.deref-in-Failed.result.now c.len-start.result (c.deref-in-Failed.ensures.value ∙ a.is.0) (omega (arith, c.len-start.ensures)) in
    let stop = subst (λ t. IsStopBehind t BodyEnd.Failed c.stop_behind-in-Failed.result) lines c.stop_behind-in-Failed.ensures in
    let short : length (text ++ a.input) < max_head = omega (arith, ap length a.is.0, a.is.1.1) in
    record { input = text ++ a.input; ending = a.ending; took = took_on old.took a.took; is = trailers_stop text a.input a.ending BodyEnd.Failed c.stop_behind-in-Failed.result stop old.no_section a.is.1.0 short (λ cut. (cut, a.is.1.2)) }

pub returns-in-NoMemory : goal.returns-in-NoMemory
returns-in-NoMemory g c =
    let old = c.lines.invariant in
    let a = c.in-NoMemory.ensures.answer in
    let text = c.lines.text.items in
    record { input = text ++ a.input; ending = a.ending; took = took_on old.took a.took; is = a.is.1.1 }

pub lines-init : goal.lines-init
lines-init g c = grind (arith, common_steps)

pub slice_bounds-is_line_end-count : goal.slice_bounds-is_line_end-count
slice_bounds-is_line_end-count g c = grind (arith, common_steps)

pub slice_bounds-is_line_end-start : goal.slice_bounds-is_line_end-start
slice_bounds-is_line_end-start g c = grind (arith, common_steps)

pub lines-smaller-in-Whole : goal.lines-smaller-in-Whole
lines-smaller-in-Whole g c = grind (arith, common_steps)

pub lines-smaller : goal.lines-smaller
lines-smaller g c = grind (arith, common_steps)

pub slice_bounds-stop_behind-end : goal.slice_bounds-stop_behind-end
slice_bounds-stop_behind-end g c = grind (arith, common_steps)

pub slice_bounds-stop_behind-end-in-Failed : goal.slice_bounds-stop_behind-end-in-Failed
slice_bounds-stop_behind-end-in-Failed g c = grind (arith, common_steps)

pub stop_behind-requires : goal.stop_behind-requires
stop_behind-requires g c =
    let a = c.in-Ended.ensures.answer in
    let text = c.lines.text.items in
    let lines = front_of text a.input c.deref-in-Ended.result.now c.len-start.result (c.deref-in-Ended.ensures.value ∙ a.is.0) (omega (arith, c.len-start.ensures)) in
    subst HasNoSection (sym lines) c.lines.invariant.no_section

pub stop_behind-requires-in-Failed : goal.stop_behind-requires-in-Failed
stop_behind-requires-in-Failed g c =
    let a = c.in-Failed.ensures.answer in
    let text = c.lines.text.items in
    let lines = front_of text a.input c.deref-in-Failed.result.now c.len-start.result (c.deref-in-Failed.ensures.value ∙ a.is.0) (omega (arith, c.len-start.ensures)) in
    subst HasNoSection (sym lines) c.lines.invariant.no_section
