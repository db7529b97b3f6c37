use Rattle.std.proofs.Common.{◌++◌, ap, ◌∙◌, string_bytes, subst}
use Rattle.std.proofs.lemmas.List.{append_assoc}
use Rattle.std.proofs.lemmas.Result.{on_ok_weaker}
use Rattle.up_hook_client.specs.Told.{AreParts, id_text, metadata, upload_begin, upload_end}
use Rattle.up_hook_client.proofs.Texts.{id_is_plain, upload_written}
use Rattle.up_hook_client.proofs.told.add_ask_upload.Goals as goal

pub returns : goal.returns
returns c =
    let ask = c.args.ask.now in
    let before = string_bytes c.args.text.now in
    let id = id_text c.args.id in
    on_ok_weaker c.end_upload.result (λ said.
    let end = upload_end (metadata ask.pairs) ask.offset said.0 ask.length in (
      said.0,
      subst (λ o. AreParts o said.0) c.bytes_of-concat.ensures said.1,
      said.2
          ∙ (ap (λ pairs. string_bytes c.begin_upload.new.text ++ upload_end (metadata pairs) ask.offset said.0 ask.length) c.as_slice-pairs.ensures
          ∙ (ap (λ x. x ++ end) c.in_ok-begin_upload.ensures
          ∙ (append_assoc before (upload_begin id ask.kind) end
          ∙ ap (λ x. before ++ x) (upload_written id ask.kind (metadata ask.pairs) said.0 ask.offset ask.length (id_is_plain c.args.id))))),
    )) c.end_upload.ensures
