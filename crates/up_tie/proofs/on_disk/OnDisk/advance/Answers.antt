use Rattle.up_tie.proofs.Spans.{same-advance}
use Rattle.up_tie.proofs.on_disk.OnDisk.advance.Goals as goal

pub invariant_of-self : goal.invariant_of-self
invariant_of-self g c =
    let inside = c.self.inside in
    same-advance inside.entries inside.changes inside.place inside.number inside.count c.self.invariant
