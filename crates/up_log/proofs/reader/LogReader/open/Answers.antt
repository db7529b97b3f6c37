use Rattle.up_log.proofs.Headings.{beginning_length}
use Rattle.up_log.proofs.Parts.{starts}
use Rattle.up_log.proofs.reader.LogReader.open.Goals as goal

pub returns-in-Ok-clause-reads : goal.returns-in-Ok-clause-reads
returns-in-Ok-clause-reads g c = λ batches is only clean.
    let read = c.in-Ok.ensures.reads batches is only clean in
    (starts c.args.setup (g.D.Disk.seen c.begin.new.disk) c.in-Ok.len batches read.0 read.1 (beginning_length c.args.setup), read.2)
