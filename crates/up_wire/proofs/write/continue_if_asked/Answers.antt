use Rattle.std.proofs.Common.{◌≡◌, ℕ, ◌&&◌, true, List, [], sym, ap, ◌∙◌, subst}
use Rattle.std.specs.Prelude.{codes}
use Rattle.std.proofs.lemmas.Bool.{cond-true, and_from}
use Rattle.up_message.specs.Fields.{Field}
use Rattle.up_wire.specs.declared.framing.Framing.{Framing}
use Rattle.up_wire.specs.Framing.{has_body, asks_to_continue, interim}
use Rattle.up_wire.specs.Steps.{HasWritten}
use Rattle.up_wire.proofs.Counting.{counts_on}
use Rattle.up_wire.proofs.Writing.{kept_at, writes_as}
use Rattle.up_wire.proofs.write.continue_if_asked.Goals as goal

-- what is written if a body follows and the client waits
due : (framing : Framing) (minor : ℕ) (fields : List Field) → has_body framing ≡ true → asks_to_continue minor fields ≡ true
    → codes "HTTP/1.1 100 Continue\r\n\r\n" ≡ interim framing minor fields
due framing minor fields follows asks =
    sym (cond-true (has_body framing && asks_to_continue minor fields) (codes "HTTP/1.1 100 Continue\r\n\r\n") [] (and_from (has_body framing) (asks_to_continue minor fields) follows asks))

pub returns-then-not-write_all-clause-written : goal.returns-then-not-write_all-clause-written
returns-then-not-write_all-clause-written g c =
    let h = c.args.head.now in
    let asks = sym (c.asks_to_continue.ensures ∙ ap (asks_to_continue h.minor) c.as_slice.ensures) ∙ c.if-asks_to_continue.true in
    writes_as (due c.args.framing h.minor h.fields (sym c.has_body.ensures ∙ c.if-has_body.true) asks)
    (subst (HasWritten _ _ _ _ (codes "HTTP/1.1 100 Continue\r\n\r\n")) c.if-not-write_all.true c.write_all.ensures)

pub returns-then-asks_to_continue-clause-written : goal.returns-then-asks_to_continue-clause-written
returns-then-asks_to_continue-clause-written g c =
    let h = c.args.head.now in
    let asks = sym (c.asks_to_continue.ensures ∙ ap (asks_to_continue h.minor) c.as_slice.ensures) ∙ c.if-asks_to_continue.true in
    let sent = c.send_on.ensures in
    writes_as (due c.args.framing h.minor h.fields (sym c.has_body.ensures ∙ c.if-has_body.true) asks)
    (record {
      written = kept_at _ _ _ _ c.write_all.result c.send_on.result c.if-not-write_all.false c.write_all.ensures.written sent.kept;
      tries = record {
        counts = counts_on _ _ _ _ _ _ c.write_all.ensures.tries.counts sent.tries.counts;
        bounded = sent.tries.bounded;
        patient = sent.tries.patient;
        failed = sent.tries.failed;
      };
    })
