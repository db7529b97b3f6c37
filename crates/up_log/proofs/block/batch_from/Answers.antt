use Rattle.std.proofs.Common.{◌∙◌, drop}
use Rattle.up_log.specs.Reading.{whole_at}
use Rattle.up_log.proofs.Batches.{batch_read, batch_reads, batch_nonempty, none_by}
use Rattle.up_log.proofs.block.batch_from.Goals as goal

pub returns-then-size-eq0-clause-entries : goal.returns-then-size-eq0-clause-entries
returns-then-size-eq0-clause-entries g c = λ first is clean damaged.
    batch_nonempty first c.args.size (drop c.args.at (g.D.Disk.seen c.args.disk.now)) is c.if-size-eq0.true

pub returns-in-Ok-clause-entries : goal.returns-in-Ok-clause-entries
returns-in-Ok-clause-entries g c = λ first is clean.
    batch_read (g.C.Contents.content c.args.files.now) first c.in-Ok.entries c.deref.result.now (c.deref.ensures.value ∙ c.in_ok-bytes.ensures.bytes clean ∙ is) c.in-Ok.ensures

pub returns-clause-entries : goal.returns-clause-entries
returns-clause-entries g c = λ first is clean damaged.
    batch_reads (g.C.Contents.content c.args.files.now) first c.deref.result.now (c.deref.ensures.value ∙ c.in_ok-bytes.ensures.bytes clean ∙ is) (none_by c.in-Err.fault (whole_at (g.C.Contents.content c.args.files.now) c.deref.result.now) c.in-Err.ensures (c.log_fault.ensures.damage damaged))
