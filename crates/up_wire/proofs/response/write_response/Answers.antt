use Rattle.std.proofs.Common.{false}
use Rattle.up_wire.specs.Response.{response_text}
use Rattle.up_wire.proofs.Writing.{kept_at, writes_front}
use Rattle.up_wire.proofs.response.write_response.Goals as goal

pub returns-then-not-send_on-clause-written : goal.returns-then-not-send_on-clause-written
returns-then-not-send_on-clause-written g c =
    let made = c.write_parts.ensures.shown in
    let text = response_text (record c.args.response.now { body = made.body }) c.args.bare c.args.close in
    record {
      body = made.body;
      is_shown = made.is_shown;
      written = writes_front _ _ text false (kept_at _ _ _ text c.write_parts.result false c.if-not-write_parts.false made.written.written c.send_on.ensures.kept);
    }
