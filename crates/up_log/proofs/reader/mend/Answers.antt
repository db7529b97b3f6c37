use Rattle.std.proofs.Common.{◌+◌, ◌≤◌, ℕ, List, length, subst, arith}
use Rattle.sqlite_disk.specs.Disk.{Torn}
use Rattle.up_log.proofs.Mending.{gate_torn, gate_shut}
use Rattle.up_log.proofs.reader.mend.Goals as goal

pub returns-in_err-write_synced-clause-crash : goal.returns-in_err-write_synced-clause-crash
returns-in_err-write_synced-clause-crash g c = λ setup batches log place size only left now.
    let short : length (g.D.Disk.seen c.args.disk.now) ≤ c.args.gate + 1 = omega (arith, c.saturating_add.ensures, c.if-len-saturating_add.false, size) in
    let from = c.write_synced.ensures.crash left now in
    let torn = subst (λ (f : List ℕ). Torn c.args.gate 1 f left) (only from.0 from.1) from.2 in
    gate_torn setup batches log.back (g.D.Disk.seen c.args.disk.now) left c.args.gate log.whole place short torn

pub returns-clause-crash : goal.returns-clause-crash
returns-clause-crash g c = λ setup batches log place size only left now.
    let short : length (g.D.Disk.seen c.args.disk.now) ≤ c.args.gate + 1 = omega (arith, c.saturating_add.ensures, c.if-len-saturating_add.false, size) in
    let from = c.write_synced.ensures.crash left now in
    let torn = subst (λ (f : List ℕ). Torn c.args.gate 1 f left) (only from.0 from.1) from.2 in
    gate_torn setup batches log.back (g.D.Disk.seen c.args.disk.now) left c.args.gate log.whole place short torn

pub returns-clause-mended : goal.returns-clause-mended
returns-clause-mended g c = λ setup batches log place size only.
    let short : length (g.D.Disk.seen c.args.disk.now) ≤ c.args.gate + 1 = omega (arith, c.saturating_add.ensures, c.if-len-saturating_add.false, size) in
    (gate_shut setup batches log.back (g.D.Disk.seen c.args.disk.now) (g.D.Disk.seen c.write_synced.new.disk) c.args.gate log.whole place short c.write_synced.ensures.others c.in_ok-write_synced.ensures.written, c.in_ok-write_synced.ensures.synced)
