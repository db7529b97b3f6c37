use Rattle.std.proofs.Common.{◌++◌, ap, ◌∙◌, codes, decimal, string_bytes, unwrap_or}
use Rattle.up_hook_client.proofs.upload.add_length.Goals as goal

pub returns : goal.returns
returns c =
    let before = string_bytes c.args.text.now in
    let is_deferred = c.deferred_text-is_deferred.result.now in
    c.in_ok-write.ensures.bytes
    ∙ (ap (λ n. before ++ (codes ",\"Size\":" ++ (decimal n ++ (codes ",\"SizeIsDeferred\":" ++ (is_deferred ++ codes ",\"Storage\":null}"))))) c.unwrap_or-size.ensures
    ∙ ap (λ d. before ++ (codes ",\"Size\":" ++ (decimal (unwrap_or c.args.length 0) ++ (codes ",\"SizeIsDeferred\":" ++ (d ++ codes ",\"Storage\":null}"))))) c.deferred_text-is_deferred.ensures)
