use Rattle.std.proofs.Common.{ap, ◌∙◌}
use Rattle.std.proofs.lemmas.Result.{IfOk-weaker}
use Rattle.serde_json.specs.Written.{compact_text, has_float}
use Rattle.up_hook_client.proofs.Texts.{metadata_has_no_float}
use Rattle.up_hook_client.proofs.upload.pairs_text.Goals as goal

pub returns : goal.returns
returns c =
    let plain = ap has_float c.in_ok-members.ensures ∙ metadata_has_no_float c.args.pairs.now in
    IfOk-weaker c.to_string.result _ _ (λ text said. said plain ∙ ap compact_text c.in_ok-members.ensures) c.to_string.ensures.text
