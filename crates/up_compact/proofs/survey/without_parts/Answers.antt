use Rattle.std.proofs.Common.{ap}
use Rattle.std.specs.List.{list_any}
use Rattle.std.specs.BTreeMap.{is_at}
use Rattle.std.specs.Ordering.{nat_cmp}
use Rattle.up_compact.specs.Surveys.{has_id}
use Rattle.up_compact.proofs.Surveying.{nothing_left_out}
use Rattle.up_compact.proofs.survey.without_parts.Goals as goal

pub returns-then-not-keeps_parts-clause-joins : goal.returns-then-not-keeps_parts-clause-joins
returns-then-not-keeps_parts-clause-joins c =
    nothing_left_out (has_id c.clear.new.self) (λ u. ap (list_any (is_at (nat_cmp u))) c.clear.ensures.empty) c.args.joinings.now
