use Rattle.std.proofs.Common.{sym, subst, ap, ◌∙◌, ◌++◌, ◌≡◌}
use Rattle.up_wire.proofs.Counting.{took_on, took_so}
use Rattle.up_wire.proofs.Bodies.{stopped_body}
use Rattle.up_wire.specs.declared.framing.Framing.{Framing}
use Rattle.up_wire.specs.Steps.{IsBodyRead}
use Rattle.up_wire.proofs.body.read_sized.Goals as goal

pub returns-in-Err-read_bytes-clause-answer : goal.returns-in-Err-read_bytes-clause-answer
returns-in-Err-read_bytes-clause-answer g c =
    let front = c.in_default.ensures in
    let rest = c.in-Err-read_bytes.ensures.answer in
    let input = front.input ++ rest.input in
    let is : input ≡ c.read_bytes.new.body.items = ap (λ t. t ++ rest.input) (sym front.is.0.items) ∙ sym rest.is.0 in
    record {
      input = input;
      ending = rest.ending;
      took = took_on (took_so front.took front.is.1) rest.took;
      is = subst (IsBodyRead c.args.limit (Framing.Sized c.args.size) input rest.ending) (sym c.into_body-in-Err-read_bytes.ensures)
          (stopped_body c.args.limit c.args.size input rest.ending c.in-Err-read_bytes.stop c.read_bytes.new.body is rest.is.1);
    }
