use Rattle.std.proofs.Common.{◌++◌, Some, ap, ◌∙◌, string_bytes, subst}
use Rattle.std.proofs.lemmas.List.{append_assoc}
use Rattle.std.proofs.lemmas.Result.{on_ok_weaker}
use Rattle.up_events.specs.IdText.{text_of}
use Rattle.up_machine.specs.Details.{details_kind, details_pairs}
use Rattle.up_hook_client.specs.Told.{AreParts, metadata, upload_begin, upload_end}
use Rattle.up_hook_client.proofs.Texts.{id_is_plain, upload_written}
use Rattle.up_hook_client.proofs.told.add_event_upload.Goals as goal

pub returns : goal.returns
returns c =
    let event = c.args.event.now in
    let details = c.args.details.now in
    let before = string_bytes c.args.text.now in
    let id = text_of event.id in
    let kind = details_kind details in
    let begun = c.in_ok-begin_upload.ensures ∙ ap (λ k. before ++ upload_begin id k) c.kind.ensures in
    on_ok_weaker c.end_upload.result (λ said.
    let end = upload_end (metadata (details_pairs details)) event.offset said.0 event.length in (
      said.0,
      subst (λ o. AreParts o said.0) c.concat-concat.ensures said.1,
      said.2
          ∙ (ap (λ pairs. string_bytes c.begin_upload.new.text ++ upload_end (metadata pairs) event.offset said.0 event.length) c.pairs-pairs.ensures
          ∙ (ap (λ x. x ++ end) begun
          ∙ (append_assoc before (upload_begin id kind) end
          ∙ ap (λ x. before ++ x) (upload_written id kind (metadata (details_pairs details)) said.0 event.offset event.length (id_is_plain (Some event.id)))))),
    )) c.end_upload.ensures
