use Rattle.std.proofs.Common.{◌≡◌, ◌+◌, arith}
use Rattle.std.proofs.lemmas.Bool.Decides.{nat_tests}
use Rattle.up_tie.proofs.Spans.{same-join}
use Rattle.up_tie.proofs.on_disk.OnDisk.join.Goals as goal

pub invariant_of-self : goal.invariant_of-self
invariant_of-self g c =
    let inside = c.self.inside in
    let more = c.more.inside in
    let place : more.place ≡ inside.place + inside.count = grind (arith, nat_tests) in
    let number : more.number ≡ inside.number + inside.count = grind (arith, nat_tests) in
    same-join inside.entries inside.changes more.entries more.changes c.longer.result c.longer-2.result inside.place inside.number inside.count more.place more.number more.count c.self.invariant c.more.invariant place number c.longer.ensures.this c.longer.ensures.that c.longer-2.ensures.this c.longer-2.ensures.that
