use Rattle.std.proofs.Common.{add-one, rules}
use Rattle.std.proofs.lemmas.List.{take_rest}
use Rattle.up_headers.proofs.MetadataTexts.{split_commas_at, split_commas_whole}
use Rattle.up_headers.proofs.metadata.cut_part.Goals as goal

pub returns-in-Some : goal.returns-in-Some
returns-in-Some c =
    let cut = split_commas_at c.args.text.now c.in-Some.comma (search rules) (search rules) (search rules) in
    simp (take_rest, add-one) cut

pub returns-in-None : goal.returns-in-None
returns-in-None c = split_commas_whole c.args.text.now (search rules)
