use Rattle.std.proofs.Common.{◌<◌, List, ℕ, length, arith, subst, sym, ◌∙◌}
use Rattle.sqlite_disk.specs.Disk.{Holds}
use Rattle.up_bodies.specs.Blocks.{block}
use Rattle.up_bodies.proofs.Held.{blocks_grow, length_block}
use Rattle.up_bodies.proofs.writer.BlockWriter.put.Goals as goal

pub returns-clause-held : goal.returns-clause-held
returns-clause-held g c =
    let is = c.deref.ensures.value ∙ c.in_ok-close_block.ensures in
    let some : 0 < length (block c.args.self.now.seed c.args.self.now.end c.args.bytes.now.items) = omega (arith, length_block c.args.self.now.seed c.args.self.now.end c.args.bytes.now.items) in
    subst (Holds (g.D.Disk.seen c.write_at.new.self) c.args.self.now.end) is
    (c.in_ok-write_at.ensures.written (subst (λ (l : List ℕ). 0 < length l) (sym is) some))

pub returns-clause-grows : goal.returns-clause-grows
returns-clause-grows g c at before holds are =
    blocks_grow c.args.self.now.seed at c.args.self.now.end _ (g.D.Disk.seen c.args.self.now.device) (g.D.Disk.seen c.write_at.new.self) before holds
    c.write_at.ensures.others c.args.bytes.now.items are c.requires.few (returns-clause-held g c)
