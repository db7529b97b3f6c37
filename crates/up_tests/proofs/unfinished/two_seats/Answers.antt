use Rattle.std.proofs.Common.{◌≡◌, All, sym, subst}
use Rattle.up_tests.proofs.unfinished.two_seats.Goals as goal

pub two_lanes-requires-clause-own : goal.two_lanes-requires-clause-own
two_lanes-requires-clause-own g c κs within =
    subst (λ v. All (λ e. e.take_end.queue ≡ g.B.Naming.queue e.lane) v.items) (sym c.in_ok-back.ensures.back.1) c.requires.own
