use Rattle.std.proofs.Common.{drop, length, rules}
use Rattle.std.proofs.lemmas.Bool.Decides.{Decides-eqb}
use Rattle.std.proofs.lemmas.Slice.Eq.{starts_is}
use Rattle.up_test_data.proofs.talks.comparison.begins_with.Goals as goal

pub returns : goal.returns
returns c begins =
    let text = c.args.text.now in
    let front = c.args.front.now in
    (drop (length front) text, (starts_is Decides-eqb text front c.starts_with.result c.starts_with.ensures.value).0 (search rules))
