use Rattle.std.proofs.Common.{◌+◌, ◌*◌, ℕ, IfErr, length, take, drop, subst}
use Rattle.std.proofs.lemmas.Result.{IfErr-weaker, on_ok_weaker}
use Rattle.up_bodies.specs.Failures.{IsUnreadFor}
use Rattle.up_bodies.proofs.Reading.{asked_held, block_begins, room_is, were_true}
use Rattle.up_bodies.proofs.open_file.OpenFile.read.Goals as goal
use Rattle.up_places.specs.Places.{part_at}

pub returns-clause-bytes : goal.returns-clause-bytes
returns-clause-bytes g c =
    let place = c.args.place.now in
    let size = room_is c.args.index c.block_len_of-len.result place.bytes c.args.room.now c.block_len_of-len.ensures.len c.block_len_of-len.ensures.few c.requires.room in
    on_ok_weaker c.read.result
    (λ known were.
    let held = asked_held g.D.Disk c.args.self.now.file.device c.read.new.self.device c.args.self.now.file.seed c.read.new.self.seed
    c.read.ensures.untouched c.read.ensures.same c.args.self.now.asked.items c.push.new.self.items place c.push.ensures were c.at.result c.at.ensures in
    block_begins c.args.self.now.file.seed _ (part_at c.args.index place.bytes) c.read.new.room (drop c.block_len_of-len.result c.args.room.now)
    (known were.0 place.bytes held c.requires.within size))
    c.read.ensures.bytes

pub returns-clause-damaged : goal.returns-clause-damaged
returns-clause-damaged g c =
    let place = c.args.place.now in
    let size = room_is c.args.index c.block_len_of-len.result place.bytes c.args.room.now c.block_len_of-len.ensures.len c.block_len_of-len.ensures.few c.requires.room in
    IfErr-weaker c.read.result _ _
    (λ fault known is were.
    known is were.0 place.bytes
    (asked_held g.D.Disk c.args.self.now.file.device c.read.new.self.device c.args.self.now.file.seed c.read.new.self.seed
    c.read.ensures.untouched c.read.ensures.same c.args.self.now.asked.items c.push.new.self.items place c.push.ensures were c.at.result c.at.ensures)
    c.requires.within size)
    c.read.ensures.damaged

pub returns-clause-cause : goal.returns-clause-cause
returns-clause-cause g c =
    let at = c.args.place.now.at + 65_544 * c.args.index in
    let unread = IsUnreadFor g.D.Disk in
    let before = c.args.self.now.file.device in
    let after = c.read.new.self.device in
    let size = room_is c.args.index c.block_len_of-len.result c.args.place.now.bytes c.args.room.now c.block_len_of-len.ensures.len c.block_len_of-len.ensures.few c.requires.room in
    subst (λ (n : ℕ). IfErr c.read.result (unread at n before after)) size
    (subst (λ (k : ℕ). IfErr c.read.result (unread (k + 65_544 * c.args.index) (length (take c.block_len_of-len.result c.args.room.now)) before after)) c.at.ensures
    c.read.ensures.cause)

pub returns-clause-stays : goal.returns-clause-stays
returns-clause-stays g c were =
    were_true g.D.Disk c.args.self.now.file.device c.read.new.self.device c.args.self.now.file.seed c.read.new.self.seed
    c.read.ensures.untouched c.read.ensures.same c.args.self.now.asked.items c.push.new.self.items c.args.place.now c.push.ensures were
