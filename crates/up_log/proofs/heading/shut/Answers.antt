use Rattle.std.proofs.Common.{◌∙◌, sym, subst, List, ℕ}
use Rattle.sqlite_disk.specs.Disk.{Torn}
use Rattle.up_log.proofs.Headings.{already_shut, shut_leaves, shut_now}
use Rattle.up_log.proofs.heading.shut.Goals as goal

pub returns-then-first-eq0-clause-shut : goal.returns-then-first-eq0-clause-shut
returns-then-first-eq0-clause-shut g c = λ setup is first only.
    (already_shut setup (g.D.Disk.seen c.args.disk.now) is (sym first ∙ c.if-first-eq0.true), only)

pub returns-in_err-write_synced-clause-crash : goal.returns-in_err-write_synced-clause-crash
returns-in_err-write_synced-clause-crash g c = λ setup is first only left now.
    let from = c.write_synced.ensures.crash left now in
    shut_leaves setup (g.D.Disk.seen c.args.disk.now) left is (λ zero. c.if-first-eq0.false (first ∙ zero)) (subst (λ (f : List ℕ). Torn 0 1 f left) (only from.0 from.1) from.2)

pub returns-clause-shut : goal.returns-clause-shut
returns-clause-shut g c = λ setup is first only.
    (shut_now setup (g.D.Disk.seen c.args.disk.now) (g.D.Disk.seen c.write_synced.new.disk) is c.write_synced.ensures.others c.in_ok-write_synced.ensures.written, c.in_ok-write_synced.ensures.synced)

pub returns-clause-crash : goal.returns-clause-crash
returns-clause-crash g c = λ setup is first only left now.
    let from = c.write_synced.ensures.crash left now in
    shut_leaves setup (g.D.Disk.seen c.args.disk.now) left is (λ zero. c.if-first-eq0.false (first ∙ zero)) (subst (λ (f : List ℕ). Torn 0 1 f left) (only from.0 from.1) from.2)
