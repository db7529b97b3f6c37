use Rattle.std.proofs.Common.{rules, sym, subst}
use Rattle.up_events.specs.Log.{IsLawful}
use Rattle.up_events.proofs.FrontLemmas.{nothing_lawful}
use Rattle.up_lanes.proofs.lane.Lane.new.Goals as goal

pub invariant_of-result : goal.invariant_of-result
invariant_of-result g c = record { sound = search rules; kept = search rules; lawful = subst IsLawful (sym c.requires.handed) nothing_lawful; counted = search rules; settled = (λ e. cc) }
