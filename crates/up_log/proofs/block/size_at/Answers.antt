use Rattle.std.proofs.Common.{arith}
use Rattle.up_log.specs.Reading.{word_at}
use Rattle.up_log.proofs.Batches.{long_enough, none_by, size_is, size_reads}
use Rattle.up_log.proofs.block.size_at.Goals as goal

pub returns-then-rest-lt9-clause-size : goal.returns-then-rest-lt9-clause-size
returns-then-rest-lt9-clause-size g c = λ first others back is len clean damaged.
    absurd (omega (arith, long_enough first others back (g.D.Disk.seen c.args.disk.now) c.args.gate is, len, c.saturating_sub-rest.ensures, c.if-rest-lt9.true))

pub returns-in-Err-clause-size : goal.returns-in-Err-clause-size
returns-in-Err-clause-size g c = λ first others back is len clean damaged.
    let none = none_by c.in-Err.fault (word_at c.read_from.new.buf) c.in-Err.ensures.exact (c.log_fault.ensures.damage damaged) in
    size_reads first others back (g.D.Disk.seen c.args.disk.now) c.args.gate is c.read_from.new.buf (c.in_ok-read_from.ensures.bytes clean) none

pub returns-then-rest-size-clause-size : goal.returns-then-rest-size-clause-size
returns-then-rest-size-clause-size g c = λ first others back is len clean damaged.
    let size = size_is first others back (g.D.Disk.seen c.args.disk.now) c.args.gate is c.read_from.new.buf c.in-Ok.size c.in-Ok.field-0-1.now (c.in_ok-read_from.ensures.bytes clean) c.in-Ok.ensures.exact in
    absurd (omega (arith, long_enough first others back (g.D.Disk.seen c.args.disk.now) c.args.gate is, size, len, c.saturating_sub-rest.ensures, c.if-rest-lt9.false, c.if-rest-size.true))

pub returns-clause-size : goal.returns-clause-size
returns-clause-size g c = λ first others back is len clean.
    size_is first others back (g.D.Disk.seen c.args.disk.now) c.args.gate is c.read_from.new.buf c.in-Ok.size c.in-Ok.field-0-1.now (c.in_ok-read_from.ensures.bytes clean) c.in-Ok.ensures.exact
