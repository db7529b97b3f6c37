use Rattle.std.proofs.Common.{Some}
use Rattle.std.proofs.lemmas.Result.{IfOk-weaker}
use Rattle.serde_json.specs.View.{view}
use Rattle.up_hook_client.proofs.Texts.{parts_have_no_float}
use Rattle.up_hook_client.proofs.upload.parts_text.Goals as goal

pub returns : goal.returns
returns c =
    let parts = view c.in_ok-parts.parts in
    let plain = parts_have_no_float (Some c.args.concat.now) parts c.in_ok-parts.ensures in
    IfOk-weaker c.to_string.result _ _ (λ text said. (parts, c.in_ok-parts.ensures, said plain)) c.to_string.ensures.text
