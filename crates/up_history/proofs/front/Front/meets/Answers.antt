use Rattle.std.proofs.Common.{List, Option, ap, subst}
use mathlib.Core.List.{IsPrefix}
use Rattle.up_history.proofs.Meeting.{Meet, entries_meet}
use Rattle.up_history.proofs.front.Front.meets.Goals as goal

pub returns : goal.returns
returns g c =
    let all = c.learn.new.self.log in
    let this : IsPrefix c.self.inside.seen.log all = subst (λ (l : List (Option g.row.E.Denot)). IsPrefix l all) (ap (λ s. s.log) c.again-both.ensures) c.learn.ensures.2 in
    let meet : Meet c.args.self.now c.args.other.now = rw (← c.self.view_is, ← c.other.view_is) (entries_meet c.self.inside.seen.log c.other.inside.seen.log all this c.learn.ensures.3) in
    record { shorter = meet.shorter; longer = meet.longer; same = meet.same; alike = meet.alike }
