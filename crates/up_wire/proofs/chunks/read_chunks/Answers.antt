use Rattle.std.proofs.Common.{◌≡◌, [], ◌++◌, length, refl, sym, ap, ◌∙◌, subst, arith, inr}
use Rattle.std.proofs.lemmas.List.{length-append}
use Rattle.httparse.specs.Ascii.{crlf_bytes}
use Rattle.httparse.specs.Grammar.{chunk_size, print_chunk_line}
use Rattle.up_wire.specs.Chunks.{AreChunks, no_chunk, one_more, IsChunked, IsLastLine, HasChunks, IsOpenLine, IsBadLine, IsOpenEnd, IsBadEnd, AreOpenTrailers, AreBadTrailers, HasLine, in_line, in_chunk, behind_chunk, in_trailers, bad_line, bad_end, bad_trailers}
use Rattle.up_wire.proofs.ChunkedTexts.{stop_answer, chunks_are, still_bounded}
use Rattle.up_wire.proofs.Counting.{took_none, took_on, took_so}
use Rattle.up_wire.proofs.chunks.read_chunks.Goals as goal

pub chunks-init : goal.chunks-init
chunks-init g c =
    let none = c.new-body.ensures.items in
    record {
      chunks = ([], took_none _ _ c.requires, subst (λ b. AreChunks b []) (sym none) no_chunk);
      within = omega (arith, ap length none);
      bounded = omega (arith, c.new-body.ensures.capacity);
    }

pub returns-in-Err-clause-answer : goal.returns-in-Err-clause-answer
returns-in-Err-clause-answer g c =
    let k = c.chunks.invariant.chunks in
    let body = c.chunks.body.items in
    let a = c.in-Err.ensures in
    let has : HasChunks c.args.limit body k.0 = record { are_chunks = k.2; within = c.chunks.invariant.within } in
    record {
      input = k.0 ++ a.input;
      ending = a.ending;
      took = took_on k.1 a.took;
      is = stop_answer c.args.limit (k.0 ++ a.input) a.ending c.in-Err.stop c.chunks.body (IsOpenLine a.input) (IsBadLine a.input) c.into_body.result c.into_body.ensures a.is
          (λ cut. in_line k.0 a.input has cut refl) (λ bad. bad_line body k.0 a.input has bad refl);
    }

pub returns-then-size-eq0-clause-answer : goal.returns-then-size-eq0-clause-answer
returns-then-size-eq0-clause-answer g c =
    let k = c.chunks.invariant.chunks in
    let a = c.in-Ok.ensures in
    let t = c.in_default.ensures in
    let body = c.chunks.body.items in
    let size = sym a.is.size_is ∙ c.if-size-eq0.true in
    let whole : IsChunked body ((k.0 ++ a.input) ++ t.input) = record {
      chunks = k.0;
      lines = k.0 ++ a.input;
      trailers = t.input;
      are_chunks = k.2;
      is_last = record { line = a.is.line; is_line = a.is.is_line; is_last = size; text_is = ap (λ l. k.0 ++ l) a.is.text_is };
      are_trailers = t.is.0;
      text_is = refl;
    } in
    record {
      input = (k.0 ++ a.input) ++ t.input;
      ending = t.ending;
      took = took_on (took_on k.1 (took_so a.took a.is.goes_on)) t.took;
      is = ((whole, c.chunks.invariant.within), t.is.1);
    }

pub returns-in-Err-read_trailers-clause-answer : goal.returns-in-Err-read_trailers-clause-answer
returns-in-Err-read_trailers-clause-answer g c =
    let k = c.chunks.invariant.chunks in
    let body = c.chunks.body.items in
    let a = c.in-Ok.ensures in
    let t = c.in-Err-read_trailers.ensures in
    let size = sym a.is.size_is ∙ c.if-size-eq0.true in
    let has : HasChunks c.args.limit body k.0 = record { are_chunks = k.2; within = c.chunks.invariant.within } in
    let last : IsLastLine (k.0 ++ a.input) k.0 = record { line = a.is.line; is_line = a.is.is_line; is_last = size; text_is = ap (λ l. k.0 ++ l) a.is.text_is } in
    record {
      input = (k.0 ++ a.input) ++ t.input;
      ending = t.ending;
      took = took_on (took_on k.1 (took_so a.took a.is.goes_on)) t.took;
      is = stop_answer c.args.limit ((k.0 ++ a.input) ++ t.input) t.ending c.in-Err-read_trailers.stop c.chunks.body (AreOpenTrailers t.input) (AreBadTrailers t.input)
          c.into_body-in-Err-read_trailers.result c.into_body-in-Err-read_trailers.ensures t.is
          (λ cut. in_trailers k.0 (k.0 ++ a.input) t.input has last cut refl) (λ bad. bad_trailers body k.0 (k.0 ++ a.input) t.input has last bad refl);
    }

pub returns-then-size-limit-clause-answer : goal.returns-then-size-limit-clause-answer
returns-then-size-limit-clause-answer g c =
    let k = c.chunks.invariant.chunks in
    let a = c.in-Ok.ensures in
    let body = c.chunks.body.items in
    record {
      input = k.0 ++ a.input;
      ending = a.ending;
      took = took_on k.1 a.took;
      is = inr (record {
        done = body;
        chunks = k.0;
        line = a.is.line;
        has_chunks = record { are_chunks = k.2; within = c.chunks.invariant.within };
        is_line = a.is.is_line;
        text_is = ap (λ l. k.0 ++ l) a.is.text_is;
        exceeds = omega (arith, a.is.size_is, c.if-size-limit.true, c.chunks.invariant.within);
      });
    }

pub returns-in-Err-read_bytes-clause-answer : goal.returns-in-Err-read_bytes-clause-answer
returns-in-Err-read_bytes-clause-answer g c =
    let k = c.chunks.invariant.chunks in
    let a = c.in-Ok.ensures in
    let body = c.chunks.body.items in
    let b = c.in-Err-read_bytes.ensures.answer in
    let has : HasChunks c.args.limit body k.0 = record { are_chunks = k.2; within = c.chunks.invariant.within } in
    let line : HasLine c.args.limit body a.is.line = record {
      is_line = a.is.is_line;
      some = omega (arith, a.is.size_is, c.if-size-eq0.false);
      fits = omega (arith, a.is.size_is, c.if-size-limit.false, c.chunks.invariant.within);
    } in
    record {
      input = k.0 ++ (a.input ++ b.input);
      ending = b.ending;
      took = took_on k.1 (took_on (took_so a.took a.is.goes_on) b.took);
      is = stop_answer c.args.limit (k.0 ++ (a.input ++ b.input)) b.ending c.in-Err-read_bytes.stop c.read_bytes.new.body _ _
          c.into_body-in-Err-read_bytes.result c.into_body-in-Err-read_bytes.ensures b.is.1
          (λ cut. in_chunk body k.0 b.input a.is.line has line (omega (arith, cut, ap length b.is.0, length-append body b.input, a.is.size_is)) b.is.0 (ap (λ l. k.0 ++ (l ++ b.input)) a.is.text_is))
          (λ bad. absurd bad);
    }

pub returns-in-Err-read_crlf-clause-answer : goal.returns-in-Err-read_crlf-clause-answer
returns-in-Err-read_crlf-clause-answer g c =
    let k = c.chunks.invariant.chunks in
    let a = c.in-Ok.ensures in
    let body = c.chunks.body.items in
    let b = c.in_default-read_bytes.ensures.answer in
    let e = c.in-Err-read_crlf.ensures in
    let has : HasChunks c.args.limit body k.0 = record { are_chunks = k.2; within = c.chunks.invariant.within } in
    let line : HasLine c.args.limit body a.is.line = record {
      is_line = a.is.is_line;
      some = omega (arith, a.is.size_is, c.if-size-eq0.false);
      fits = omega (arith, a.is.size_is, c.if-size-limit.false, c.chunks.invariant.within);
    } in
    let whole : length b.input ≡ chunk_size a.is.line = omega (arith, b.is.1.0, ap length b.is.0, length-append body b.input, a.is.size_is) in
    let text_is = ap (λ l. k.0 ++ (l ++ (b.input ++ e.input))) a.is.text_is in
    record {
      input = k.0 ++ (a.input ++ (b.input ++ e.input));
      ending = e.ending;
      took = took_on k.1 (took_on (took_so a.took a.is.goes_on) (took_on (took_so b.took b.is.1.1) e.took));
      is = stop_answer c.args.limit (k.0 ++ (a.input ++ (b.input ++ e.input))) e.ending c.in-Err-read_crlf.stop c.read_bytes.new.body (IsOpenEnd e.input) (IsBadEnd e.input)
          c.into_body-in-Err-read_crlf.result c.into_body-in-Err-read_crlf.ensures e.is
          (λ cut. behind_chunk body k.0 b.input e.input a.is.line has line whole cut b.is.0 text_is)
          (λ bad. bad_end body k.0 b.input e.input a.is.line has line whole bad text_is);
    }

pub chunks-preserved : goal.chunks-preserved
chunks-preserved g c =
    let k = c.chunks.invariant.chunks in
    let a = c.in-Ok.ensures in
    let body = c.chunks.body.items in
    let b = c.in_default-read_bytes.ensures.answer in
    let e = c.in_default-read_crlf.ensures in
    let bytes = c.read_bytes.new.body.items in
    let whole : length b.input ≡ chunk_size a.is.line = omega (arith, b.is.1.0, ap length b.is.0, length-append body b.input, a.is.size_is) in
    let next : AreChunks (body ++ b.input) (k.0 ++ (print_chunk_line a.is.line ++ (b.input ++ crlf_bytes))) =
    one_more body k.0 b.input a.is.line k.2 a.is.is_line (omega (arith, whole, a.is.size_is, c.if-size-eq0.false)) (sym whole) in
    let took = took_on k.1 (took_on (took_so a.took a.is.goes_on) (took_on (took_so b.took b.is.1.1) (took_so e.took e.is.1))) in
    record {
      chunks = (
        k.0 ++ (a.input ++ (b.input ++ e.input)),
        took,
        chunks_are body bytes b.input k.0 a.input e.input a.is.line b.is.0 a.is.text_is e.is.0 next,
      );
      within = omega (arith, b.is.1.0, a.is.size_is, c.if-size-limit.false, c.chunks.invariant.within);
      bounded = still_bounded _ _ c.read_bytes.new.body refl c.in_default-read_bytes.ensures.bounded;
    }
