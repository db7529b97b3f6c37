use Rattle.std.proofs.Common.{◌∙◌}
use Rattle.up_log.proofs.Headings.{front_is, no_front}
use Rattle.up_log.proofs.heading.front_of.Goals as goal

pub returns-then-count-eq0-clause-bytes : goal.returns-then-count-eq0-clause-bytes
returns-then-count-eq0-clause-bytes g c = λ clean len. c.new.ensures.items ∙ no_front (g.D.Disk.seen c.args.disk.now) c.args.len c.min-count.result len c.min-count.ensures c.if-count-eq0.true

pub returns-clause-bytes : goal.returns-clause-bytes
returns-clause-bytes g c = λ clean len. front_is (g.D.Disk.seen c.args.disk.now) c.args.len c.min-count.result c.in_ok-front.front.items len c.min-count.ensures (c.in_ok-front.ensures.bytes clean)
