use Rattle.std.proofs.Common.{◌∙◌, sym}
use Rattle.up_hook_client.proofs.Texts.{plain_text_stands}
use Rattle.up_hook_client.proofs.upload.plain_text.Goals as goal

pub returns-in-Ok : goal.returns-in-Ok
returns-in-Ok c =
    let utf8 = c.in-Ok.ensures.cases in
    plain_text_stands c.args.bytes.now utf8.1 (sym c.are_plain.ensures ∙ c.if-are_plain.true) ∙ sym utf8.0
