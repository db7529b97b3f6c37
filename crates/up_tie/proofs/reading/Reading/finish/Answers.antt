use Rattle.std.proofs.Common.{inr}
use Rattle.up_tie.proofs.reading.Reading.finish.Goals as goal

pub tied-requires : goal.tied-requires
tied-requires g c = λ premise clean.
    let read = c.self.invariant premise (c.in-Ok.ensures.clean clean) in
    let done = c.in-Ok.ensures.settled g.J.Site.setup read.0 read.1 read.2 clean in
    inr (read.0, done.1, read.4)
