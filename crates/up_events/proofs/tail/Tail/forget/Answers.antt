use Rattle.std.proofs.Common.{arith}
use Rattle.up_events.proofs.TailLemmas.{left_later, view_length}
use Rattle.up_events.proofs.tail.Tail.forget.Goals as goal

pub invariant_of-self : goal.invariant_of-self
invariant_of-self c =
    let a = c.self.inside in
    let v = view_length a.all.items a.len a.first a.base a.blocks.items c.args.self.now c.self.invariant c.self.view_is in
    left_later a.all.items a.len a.first a.base c.args.place a.blocks.items c.drop_front.new.blocks.items c.self.invariant (omega (arith, v.0, c.requires.there)) (omega (arith, v.1, c.requires.within)) c.drop_front.ensures
