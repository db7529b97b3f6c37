use Rattle.std.proofs.Common.{◌≡◌, [], ◌∷◌, ap, sym, ◌∙◌}
use Rattle.std.specs.Prelude.{codes}
use Rattle.std.proofs.lemmas.Bool.{cond-true, cond-false}
use Rattle.httparse.specs.Ascii.{crlf_bytes}
use Rattle.std.specs.List.{concat}
use Rattle.up_wire.specs.Response.{close_line}
use Rattle.up_wire.proofs.Writing.{writes_as}
use Rattle.up_wire.proofs.response.write_gap.Goals.{then-close, else-close}
use Rattle.up_wire.proofs.response.write_gap.Goals as goal

pub returns : goal.returns
returns g c =
    let line = codes "Connection: close\r\n" in
    let closing : c.if-close.closing.now ≡ close_line c.args.close = elim c.if-close.branch [
      | then-close w ↦ ap (λ s. s.now) w.closing-is ∙ sym (cond-true c.args.close line [] w.if-close.true)
      | else-close w ↦ ap (λ s. s.now) w.closing-is ∙ sym (cond-false c.args.close line [] w.if-close.false)
    ] in
    writes_as (λ i. concat (closing i ∷ crlf_bytes ∷ [])) c.write_each.ensures
