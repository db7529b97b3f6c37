use Rattle.std.proofs.Common.{◌∙◌}
use Rattle.up_events.proofs.AscendingLemmas.{search_says}
use Rattle.up_events.proofs.sorted_ids.SortedIds.contains.Goals as goal

pub returns : goal.returns
returns c = c.is_ok.ensures.value ∙ search_says c.args.self.now c.args.id c.find.result c.find.ensures.found c.find.ensures.ascend
