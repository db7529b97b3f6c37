use Rattle.std.proofs.Common.{◌<◌, arith}
use Rattle.std.proofs.lemmas.Result.{IfErr-weaker}
use Rattle.up_bodies.proofs.Opening.{unopened}
use Rattle.up_bodies.proofs.reader.seed_in.Goals as goal

pub returns-clause-cause : goal.returns-clause-cause
returns-clause-cause g c =
    let some : 0 < 56 = omega arith in
    IfErr-weaker c.seed_in.result _ _
    (unopened g.D.Disk c.args.head.now c.args.device.now c.read_at.new.self c.read_at.new.buf c.read_at.auto.buf
    (λ clean. c.in_ok-read_at.ensures.read clean some))
    c.seed_in.ensures.err
