use mathlib.Core.Bool.{true≢false}
use Rattle.std.proofs.Common.{ℕ, ◌<◌, length, arith, subst, sym, ◌∙◌}
use Rattle.sqlite_disk.specs.Disk.{Holds}
use Rattle.up_bodies.specs.Blocks.{IsSound}
use Rattle.up_bodies.proofs.Held.{read_is, read_sound}
use Rattle.up_bodies.proofs.reader.BlockReader.read.Goals as goal

pub returns-then-is_sound-clause-bytes : goal.returns-then-is_sound-clause-bytes
returns-then-is_sound-clause-bytes g c clean bytes holds within size =
    let some : 0 < length c.args.room.now = omega (arith, c.requires.some) in
    let there = subst (λ (k : ℕ). Holds (g.D.Disk.seen c.args.self.now.device) k c.read_at.new.buf) c.in-Some.ensures.place (c.in_ok-read_at.ensures.read clean some) in
    read_is c.args.self.now.seed c.args.at c.args.index (g.D.Disk.seen c.args.self.now.device) bytes c.read_at.new.buf holds within (c.read_at.auto.buf ∙ size) there

pub returns-else-is_sound-clause-damaged : goal.returns-else-is_sound-clause-damaged
returns-else-is_sound-clause-damaged g c is clean bytes holds within size =
    let some : 0 < length c.args.room.now = omega (arith, c.requires.some) in
    let there = subst (λ (k : ℕ). Holds (g.D.Disk.seen c.args.self.now.device) k c.read_at.new.buf) c.in-Some.ensures.place (c.in_ok-read_at.ensures.read clean some) in
    let sound = read_sound c.args.self.now.seed c.args.at c.args.index (g.D.Disk.seen c.args.self.now.device) bytes c.read_at.new.buf holds within (c.read_at.auto.buf ∙ size) there in
    true≢false (sym (c.if-is_sound.ensures.1 (subst (λ (k : ℕ). IsSound c.args.self.now.seed k c.read_at.new.buf) (sym c.in-Some.ensures.place) sound)))
