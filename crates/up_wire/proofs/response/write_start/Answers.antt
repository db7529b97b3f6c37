use Rattle.std.proofs.Common.{◌≡◌, [], ◌∷◌, ◌∙◌}
use Rattle.std.specs.Prelude.{codes, decimal}
use Rattle.std.specs.List.{concat}
use Rattle.up_wire.specs.Response.{phrase}
use Rattle.up_wire.proofs.Writing.{writes_as}
use Rattle.up_wire.proofs.response.write_start.Goals as goal

pub returns : goal.returns
returns g c =
    let status = c.args.status in
    let digits : c.as_bytes.result.now ≡ decimal status = c.as_bytes.ensures.value ∙ c.format.ensures.text in
    let reason : c.as_bytes-2.result.now ≡ phrase status = c.as_bytes-2.ensures.value ∙ c.phrase.ensures in
    writes_as
    (λ i. concat (codes "HTTP/1.1 " ∷ digits i ∷ codes " " ∷ reason i ∷ codes "\r\nTus-Resumable: 1.0.0\r\nCache-Control: no-store\r\n" ∷ []))
    c.write_each.ensures
