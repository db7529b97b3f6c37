use Rattle.std.proofs.Common.{◌∙◌, subst, List, ℕ, length}
use Rattle.sqlite_disk.specs.Disk.{Torn}
use Rattle.up_log.proofs.Headings.{write_leaves, write_now, gate_leaves, opened_now}
use Rattle.up_log.proofs.heading.write_heading.Goals as goal

pub returns-in_err-write_synced-clause-crash : goal.returns-in_err-write_synced-clause-crash
returns-in_err-write_synced-clause-crash g c = λ setup are is only left now.
    let from = c.write_synced.ensures.crash left now in
    write_leaves setup (g.D.Disk.seen c.args.disk.now) c.args.closed.now left are is (subst (λ (f : List ℕ). Torn 1 (length c.args.closed.now) f left) (only from.0 from.1) from.2)

pub returns-in_err-write_synced-2-clause-crash : goal.returns-in_err-write_synced-2-clause-crash
returns-in_err-write_synced-2-clause-crash g c = λ setup are is only left now.
    let file = write_now setup (g.D.Disk.seen c.args.disk.now) c.args.closed.now (g.D.Disk.seen c.write_synced.new.disk) are is c.write_synced.ensures.others c.in_ok-write_synced.ensures.written in
    let from = c.write_synced-2.ensures.crash left now in
    gate_leaves setup from.0 c.args.closed.now left are (c.in_ok-write_synced.ensures.synced from.0 from.1 ∙ file) from.2

pub returns-clause-opened : goal.returns-clause-opened
returns-clause-opened g c = λ setup are is.
    let file = write_now setup (g.D.Disk.seen c.args.disk.now) c.args.closed.now (g.D.Disk.seen c.write_synced.new.disk) are is c.write_synced.ensures.others c.in_ok-write_synced.ensures.written in
    (opened_now setup (g.D.Disk.seen c.write_synced.new.disk) c.args.closed.now (g.D.Disk.seen c.write_synced-2.new.disk) are file c.write_synced-2.ensures.others c.in_ok-write_synced-2.ensures.written, c.in_ok-write_synced-2.ensures.synced)

pub returns-clause-crash : goal.returns-clause-crash
returns-clause-crash g c = λ setup are is only left now.
    let file = write_now setup (g.D.Disk.seen c.args.disk.now) c.args.closed.now (g.D.Disk.seen c.write_synced.new.disk) are is c.write_synced.ensures.others c.in_ok-write_synced.ensures.written in
    let from = c.write_synced-2.ensures.crash left now in
    gate_leaves setup from.0 c.args.closed.now left are (c.in_ok-write_synced.ensures.synced from.0 from.1 ∙ file) from.2
