use Rattle.std.proofs.Common.{refl}
use Rattle.up_log.proofs.appending.Log.resume.Goals as goal

pub returns-in-Ok-clause-settled : goal.returns-in-Ok-clause-settled
returns-in-Ok-clause-settled g c = λ setup batches more leaves place clean.
    let closed = c.in-Ok.ensures.closed setup batches more leaves place clean in
    (record { file = closed.0; place = place; durable = closed.1; usable = c.in-Ok.ensures.usable }, refl)
