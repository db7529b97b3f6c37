use Rattle.std.proofs.Common.{List, ℕ, ◌++◌, ap, ◌∙◌, codes, string_bytes}
use Rattle.serde_json.specs.Data.{boolean}
use Rattle.serde_json.specs.Written.{compact_text}
use Rattle.up_hook_client.specs.Told.{id_text, is_final}
use Rattle.up_hook_client.proofs.Texts.{three_parts}
use Rattle.up_hook_client.proofs.upload.begin_upload.Goals as goal

abbrev rest : List ℕ → List ℕ → List ℕ
rest f r = codes "\",\"IsFinal\":" ++ (f ++ (codes ",\"IsPartial\":" ++ (r ++ codes ",\"MetaData\":")))

pub returns : goal.returns
returns c =
    let before = string_bytes c.args.text.now in
    let head = codes "{\"ID\":\"" in
    let id = id_text c.args.id in
    let f = c.final_text-is_final.result.now in
    let r = c.partial_text-is_partial.result.now in
    c.in_ok-write.ensures.bytes
    ∙ (ap (λ x. x ++ rest f r) (c.in_ok-add_id.ensures ∙ ap (λ x. x ++ id) c.in_ok-push_str.ensures.bytes)
    ∙ (three_parts before head id (rest f r)
    ∙ (ap (λ x. before ++ (head ++ (id ++ rest x r))) c.final_text-is_final.ensures
    ∙ ap (λ x. before ++ (head ++ (id ++ rest (compact_text (boolean (is_final c.args.kind))) x))) c.partial_text-is_partial.ensures)))
