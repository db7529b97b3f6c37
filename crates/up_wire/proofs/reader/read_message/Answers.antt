use Rattle.std.proofs.Common.{[], ◌++◌, Ok, Err, refl, sym, ap, ◌∙◌, subst, append-nil, arith, inl}
use Rattle.std.proofs.KnownBytes.{Appends-nil, Consumes-trans}
use Rattle.up_wire.specs.Message.{open_yet, fields_of, IsBody, IsCutBody}
use Rattle.up_wire.specs.Reading.{interim_after}
use Rattle.up_wire.proofs.Answering.{shows_of, head_fault, framing_error, framing_fault, fault_behind, framing_is, bare_is, due_is, parts_are, head_more, patient_of, patient_write, still_open, broke, no_write, head_written, error_written, body_written}
use Rattle.up_wire.proofs.reader.read_message.Goals as goal

pub returns-in-Fault : goal.returns-in-Fault
returns-in-Fault g c =
    let a = c.in-Fault.ensures in
    let counted = a.took.counts.counted in
    let both = head_fault c.args.limits.now.max_body a.input a.ending c.in-Fault.fault c.in-Fault.bare a.is in
    record {
      input = a.input;
      ending = a.ending;
      line = [];
      took = a.took.bytes;
      wrote = Appends-nil _;
      shows = shows_of a.ending _ _ _ _ a.took.ends (omega arith) (λ often. omega (arith, counted, often));
      is_patient = patient_of a.ending _ _ _ _ a.took.ends (omega arith);
      is_answer = both.0;
      is_interim = both.1;
      is_unwritten = λ failed. absurd (no_write c.in-Fault.fault c.in-Fault.bare (head_written a.input a.ending c.in-Fault.fault c.in-Fault.bare a.is) failed);
    }

pub returns-in-Err : goal.returns-in-Err
returns-in-Err g c =
    let a = c.in-Whole.ensures in
    let counted = a.took.counts.counted in
    let limit = c.args.limits.now.max_body in
    let h = c.in-Whole.head in
    let head = a.is.head in
    let has = a.is.keeps in
    let fault = c.in-Err.fault in
    let framed = framing_is limit h head c.as_slice.result.now (Err fault) has c.as_slice.ensures c.in-Err.ensures in
    let bare = bare_is h head c.is_bare-bare.result has c.is_bare-bare.ensures in
    let both = framing_fault limit a.input open_yet fault c.is_bare-bare.result []
    (framing_error limit head.minor (fields_of head) fault framed)
    (record { head = head; behind = []; is_head = a.is.is_head; is_fault = inl (framed, refl); bare_is = bare })
    (head, [], a.is.is_head, sym (ap (λ r. interim_after r head) framed)) in
    record {
      input = a.input;
      ending = open_yet;
      line = [];
      took = a.took.bytes;
      wrote = Appends-nil _;
      shows = tt;
      is_patient = inl (omega (arith, still_open a.ending _ _ a.is.goes_on a.took.ends, a.took.counts.counted));
      is_answer = both.0;
      is_interim = both.1;
      is_unwritten = λ failed. absurd (no_write fault c.is_bare-bare.result (error_written fault (framing_error limit head.minor (fields_of head) fault framed)) failed);
    }

pub returns-then-not-continue_if_asked : goal.returns-then-not-continue_if_asked
returns-then-not-continue_if_asked g c =
    let a = c.in-Whole.ensures in
    let limit = c.args.limits.now.max_body in
    let h = c.in-Whole.head in
    let head = a.is.head in
    let has = a.is.keeps in
    let framed = framing_is limit h head c.as_slice.result.now (Ok c.in-Ok.framing) has c.as_slice.ensures c.in-Ok.ensures in
    let wrote = c.continue_if_asked.ensures.written in
    let written = wrote.written in
    record {
      input = a.input;
      ending = open_yet;
      line = written.0;
      took = a.took.bytes;
      wrote = written.2;
      shows = tt;
      is_patient = patient_write open_yet c.is_bare-bare.result _ _ wrote.tries.bounded (omega (arith, a.took.counts.counted, wrote.tries.counts.counted));
      is_answer = (head, a.is.is_head, bare_is h head c.is_bare-bare.result has c.is_bare-bare.ensures);
      is_interim = (_, (head, [], a.is.is_head, due_is limit h head c.in-Ok.framing _ has framed refl), c.continue_if_asked.ensures.due c.if-not-continue_if_asked.true, written.1);
      is_unwritten = λ failed. broke
          (g.W.Sink.device c.args.sink.now)
          (g.W.Sink.device c.continue_if_asked.new.sink)
          _ _ (wrote.tries.failed c.if-not-continue_if_asked.true) wrote.tries.bounded
          (omega (arith, a.took.counts.counted, wrote.tries.counts.counted))
          (λ often. omega (arith, often, still_open a.ending _ _ a.is.goes_on a.took.ends, wrote.tries.counts.counted));
    }

pub returns-in-Whole-keep_body : goal.returns-in-Whole-keep_body
returns-in-Whole-keep_body g c =
    let a = c.in-Whole.ensures in
    let limit = c.args.limits.now.max_body in
    let h = c.in-Whole.head in
    let head = a.is.head in
    let has = a.is.keeps in
    let framed = framing_is limit h head c.as_slice.result.now (Ok c.in-Ok.framing) has c.as_slice.ensures c.in-Ok.ensures in
    let wrote = c.continue_if_asked.ensures.written in
    let written = wrote.written in
    let all = written.3 c.if-not-continue_if_asked.false in
    let b = c.in-Whole-keep_body.ensures in
    let counted = b.took.counts.counted in
    let m = c.into_message in
    let whole = head_more a.input head b.input a.is.is_head in
    record {
      input = a.input ++ b.input;
      ending = b.ending;
      line = written.0;
      took = Consumes-trans _ _ _ _ _ a.took.bytes b.took.bytes;
      wrote = written.2;
      shows = shows_of b.ending _ _ _ _ b.took.ends (omega arith) (λ often. omega (arith, often, counted, a.took.counts.counted, wrote.tries.patient c.if-not-continue_if_asked.false));
      is_patient = patient_of b.ending _ _ _ _ b.took.ends (omega arith);
      is_answer = record {
        head = head;
        behind = b.input;
        is_head = whole;
        framing = c.in-Ok.framing;
        is_framed = framed;
        text = b.input;
        is_body = subst (λ bytes. IsBody limit c.in-Ok.framing bytes b.input) (sym m.ensures.body) b.is.0;
        behind_is = sym (append-nil b.input);
        parts = parts_are h head m.result has m.ensures.method m.ensures.target m.ensures.fields (m.ensures.bare ∙ c.is_bare-bare.ensures) m.ensures.close;
      };
      is_interim = (head, b.input, whole, due_is limit h head c.in-Ok.framing written.0 has framed all);
      is_unwritten = λ failed. absurd (cc (failed.1));
    }

pub returns-in-Cut : goal.returns-in-Cut
returns-in-Cut g c =
    let a = c.in-Whole.ensures in
    let limit = c.args.limits.now.max_body in
    let h = c.in-Whole.head in
    let head = a.is.head in
    let has = a.is.keeps in
    let framed = framing_is limit h head c.as_slice.result.now (Ok c.in-Ok.framing) has c.as_slice.ensures c.in-Ok.ensures in
    let wrote = c.continue_if_asked.ensures.written in
    let written = wrote.written in
    let all = written.3 c.if-not-continue_if_asked.false in
    let b = c.in-Cut.ensures in
    let counted = b.took.counts.counted in
    let m = c.into_message-in-Cut in
    let whole = head_more a.input head b.input a.is.is_head in
    record {
      input = a.input ++ b.input;
      ending = b.ending;
      line = written.0;
      took = Consumes-trans _ _ _ _ _ a.took.bytes b.took.bytes;
      wrote = written.2;
      shows = shows_of b.ending _ _ _ _ b.took.ends (omega arith) (λ often. omega (arith, often, counted, a.took.counts.counted, wrote.tries.patient c.if-not-continue_if_asked.false));
      is_patient = patient_of b.ending _ _ _ _ b.took.ends (omega arith);
      is_answer = (
        record {
          head = head;
          behind = b.input;
          is_head = whole;
          framing = c.in-Ok.framing;
          is_framed = framed;
          is_cut = subst (λ bytes. IsCutBody limit c.in-Ok.framing bytes b.input) (sym m.ensures.body) b.is.0;
          parts = parts_are h head m.result has m.ensures.method m.ensures.target m.ensures.fields (m.ensures.bare ∙ c.is_bare-bare.ensures) m.ensures.close;
        },
        b.is.1,
      );
      is_interim = (head, b.input, whole, due_is limit h head c.in-Ok.framing written.0 has framed all);
      is_unwritten = λ failed. absurd (cc (failed.1));
    }

pub returns-in-Fault-keep_body : goal.returns-in-Fault-keep_body
returns-in-Fault-keep_body g c =
    let a = c.in-Whole.ensures in
    let limit = c.args.limits.now.max_body in
    let h = c.in-Whole.head in
    let head = a.is.head in
    let has = a.is.keeps in
    let framed = framing_is limit h head c.as_slice.result.now (Ok c.in-Ok.framing) has c.as_slice.ensures c.in-Ok.ensures in
    let wrote = c.continue_if_asked.ensures.written in
    let written = wrote.written in
    let all = written.3 c.if-not-continue_if_asked.false in
    let b = c.in-Fault-keep_body.ensures in
    let counted = b.took.counts.counted in
    let whole = head_more a.input head b.input a.is.is_head in
    let bare = bare_is h head c.is_bare-bare.result has c.is_bare-bare.ensures in
    let due = due_is limit h head c.in-Ok.framing written.0 has framed all in
    let both = fault_behind limit (a.input ++ b.input) b.ending c.in-Fault-keep_body.fault c.is_bare-bare.result written.0 head b.input c.in-Ok.framing whole framed bare due b.is in
    record {
      input = a.input ++ b.input;
      ending = b.ending;
      line = written.0;
      took = Consumes-trans _ _ _ _ _ a.took.bytes b.took.bytes;
      wrote = written.2;
      shows = shows_of b.ending _ _ _ _ b.took.ends (omega arith) (λ often. omega (arith, often, counted, a.took.counts.counted, wrote.tries.patient c.if-not-continue_if_asked.false));
      is_patient = patient_of b.ending _ _ _ _ b.took.ends (omega arith);
      is_answer = both.0;
      is_interim = both.1;
      is_unwritten = λ failed. absurd (no_write c.in-Fault-keep_body.fault c.is_bare-bare.result (body_written limit c.in-Ok.framing b.input c.in-Fault-keep_body.fault b.is) failed);
    }
