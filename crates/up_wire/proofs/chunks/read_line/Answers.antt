use Rattle.std.proofs.Common.{◌≡◌, ◌≤◌, [], ◌∷◌, ◌++◌, length, sym, ap, ◌∙◌, subst, arith, inl, inr}
use Rattle.httparse.specs.Grammar.{print_chunk_line, HasNoChunkLine, NeverHasChunkLine}
use Rattle.up_wire.specs.Chunks.{IsLine}
use Rattle.up_wire.specs.Limits.{max_line}
use Rattle.up_wire.proofs.ChunkedTexts.{no_line, line_alone, line_refused}
use Rattle.up_wire.proofs.chunks.read_line.Goals as goal

pub returns-in-Ok-Complete : goal.returns-in-Ok-Complete
returns-in-Ok-Complete g c =
    let a = c.in-Whole.ensures.answer in
    let front = a.is.1.0.0 in
    let same : c.deref.result.now ≡ front ++ 10 ∷ [] = c.deref.ensures.value ∙ a.is.0 ∙ ap (λ t. t ++ a.input) c.clear.ensures.items ∙ a.is.1.0.1 in
    let found = rw c.in-Ok-Complete.field-0-is at c.in-Ok-Complete.ensures.complete in
    let alone = line_alone front found.0 _ a.is.1.0.2 (found.1.reads.0, sym same ∙ found.1.reads.1) in
    let short : length (print_chunk_line found.0) ≤ max_line = omega (arith, ap length (sym same ∙ c.deref.ensures.value), c.in-Whole.ensures.within, ap length alone) in
    let is_line : IsLine found.0 = record { valid = found.1.reads.0; short = short } in
    record { input = a.input; ending = a.ending; took = a.took; is = record { line = found.0; is_line = is_line; text_is = a.is.1.0.1 ∙ alone; size_is = found.1.size_is; goes_on = a.is.1.1 } }

pub returns-in-Ok-Partial : goal.returns-in-Ok-Partial
returns-in-Ok-Partial g c =
    let a = c.in-Whole.ensures.answer in
    let front = a.is.1.0.0 in
    let whole = a.is.0 ∙ ap (λ t. t ++ a.input) c.clear.ensures.items in
    let same : c.deref.result.now ≡ front ++ 10 ∷ [] = c.deref.ensures.value ∙ whole ∙ a.is.1.0.1 in
    let never = line_refused front a.is.1.0.2 (subst HasNoChunkLine same (rw c.in-Ok-Partial.field-0-is at c.in-Ok-Partial.ensures.partial)) in
    let short : length a.input ≤ max_line = omega (arith, ap length whole, c.in-Whole.ensures.within) in
    record { input = a.input; ending = a.ending; took = a.took; is = (short, inl (subst NeverHasChunkLine (sym a.is.1.0.1) never)) }

pub returns-in-Full : goal.returns-in-Full
returns-in-Full g c =
    let a = c.in-Full.ensures.answer in
    let whole = a.is.0 ∙ ap (λ t. t ++ a.input) c.clear.ensures.items in
    let full : length a.input ≡ max_line = omega (arith, ap length whole, a.is.1.1) in
    record { input = a.input; ending = a.ending; took = a.took; is = (omega (arith, full), inr (full, no_line a.input a.is.1.0)) }
