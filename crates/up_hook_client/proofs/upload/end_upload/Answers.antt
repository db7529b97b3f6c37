use Rattle.std.proofs.Common.{◌++◌, ap, ◌∙◌, codes, decimal, string_bytes}
use Rattle.std.proofs.lemmas.List.{append_assoc}
use Rattle.std.proofs.lemmas.Result.{on_ok_weaker}
use Rattle.serde_json.specs.Written.{compact_text}
use Rattle.up_hook_client.specs.Told.{length_text, metadata}
use Rattle.up_hook_client.proofs.Texts.{three_parts}
use Rattle.up_hook_client.proofs.upload.end_upload.Goals as goal

pub returns : goal.returns
returns c =
    let before = string_bytes c.args.text.now in
    let pairs = compact_text (metadata c.args.pairs.now) in
    let offset = codes ",\"Offset\":" ++ (decimal c.args.offset ++ codes ",\"PartialUploads\":") in
    let parts = c.in_ok-add_parts.ensures.0 in
    let last = compact_text parts ++ length_text c.args.length in
    let first = c.in_ok-write.ensures.bytes ∙ ap (λ x. x ++ offset) c.in_ok-add_metadata.ensures in
    let second = c.in_ok-add_parts.ensures.2 ∙ ap (λ x. x ++ compact_text parts) first in
    on_ok_weaker c.add_length.result (λ said. (
      parts,
      c.in_ok-add_parts.ensures.1,
      said
          ∙ (ap (λ x. x ++ length_text c.args.length) second
          ∙ (three_parts (before ++ pairs) offset (compact_text parts) (length_text c.args.length)
          ∙ (append_assoc before pairs (offset ++ last)
          ∙ ap (λ x. before ++ (pairs ++ (codes ",\"Offset\":" ++ x))) (append_assoc (decimal c.args.offset) (codes ",\"PartialUploads\":") last)))),
    )) c.add_length.ensures
