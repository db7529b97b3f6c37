use Rattle.std.proofs.Common.{◌≡◌, ◌≤◌, ◌∙◌, ◌++◌, length, take, drop, sym, ap, arith}
use Rattle.std.proofs.Math.Seq.{take-append_seam}
use Rattle.std.proofs.lemmas.List.{length-take-le}
use Rattle.std.proofs.lemmas.Result.{on_ok_weaker}
use Rattle.up_bodies.proofs.Reading.{length_part}
use Rattle.up_bodies.proofs.body_shelf.read_into.Goals as goal
use Rattle.up_places.specs.Places.{part_at}

-- the buffer keeps as many bytes as the part has
count : (g : _) (c : goal.After-truncate g) → c.min.result ≡ length (part_at c.args.index c.args.place.now.bytes)
count g c = omega (arith, c.min.ensures, c.len.ensures, c.requires.within, length_part c.args.index c.args.place.now.bytes)

all : (g : _) (c : goal.After-truncate g) → c.resize.new.self.len ≡ length c.read-read.new.room
all g c = sym (c.read-read.auto.room ∙ c.as_mut_slice.ensures.len)

-- these are the first bytes of what was read
kept : (g : _) (c : goal.After-truncate g) → c.truncate.new.self.items ≡ take c.min.result c.read-read.new.room
kept g c =
    let room = c.read-read.new.room in
    let rest = drop (length room) c.resize.new.self.items in
    c.truncate.ensures.items ∙ ap (take c.min.result) (ap (λ k. take k (room ++ rest)) (all g c) ∙ take-append_seam room rest)

pub returns-clause-len : goal.returns-clause-len
returns-clause-len g c =
    let enough : c.min.result ≤ length c.read-read.new.room = omega (arith, c.min.ensures, all g c, c.in_ok-resize.ensures.len) in
    on_ok_weaker c.read-read.result (λ _. ap length (kept g c) ∙ length-take-le c.min.result c.read-read.new.room enough ∙ count g c) c.read-read.ensures.bytes

pub returns-clause-bytes : goal.returns-clause-bytes
returns-clause-bytes g c =
    on_ok_weaker c.read-read.result (λ known yes. kept g c ∙ ap (λ k. take k c.read-read.new.room) (count g c) ∙ known yes) c.read-read.ensures.bytes
