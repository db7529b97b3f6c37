use Rattle.std.proofs.Common.{◌≡◌, ◌∙◌, ℕ, List, [], ◌++◌, length, sym, ap, subst}
use Rattle.std.specs.Prelude.{IsTrue}
use Rattle.sqlite_disk.specs.Disk.{Only}
use Rattle.up_log.specs.Blocks.{IsLog}
use Rattle.up_log.specs.Logs.{NextIs}
use Rattle.up_log.proofs.Parts.{all_read, log_is, tail_is, with_none}
use Rattle.up_log.proofs.reader.end.Goals as goal

pub returns-in_err-begins_at-clause-crash : goal.returns-in_err-begins_at-clause-crash
returns-in_err-begins_at-clause-crash g c = λ setup read left part only clean d now.
    subst (λ (f : List ℕ). IsLog setup f (read ++ left)) (sym (only d (c.begins_at.ensures.crash d now))) (log_is setup (g.D.Disk.seen c.args.disk.now) c.args.gate c.args.len read left part)

pub returns-then-branch-clause-crash : goal.returns-then-branch-clause-crash
returns-then-branch-clause-crash g c = λ setup read left part only clean d now.
    subst (λ (f : List ℕ). IsLog setup f (read ++ left)) (sym (only d (c.begins_at.ensures.crash d now))) (log_is setup (g.D.Disk.seen c.args.disk.now) c.args.gate c.args.len read left part)

pub returns-in_err-mend-clause-crash : goal.returns-in_err-mend-clause-crash
returns-in_err-mend-clause-crash g c = λ setup read left part only clean d now.
    let clean_then = subst IsTrue c.mend.ensures.calm clean in
    let seen = g.D.Disk.seen c.args.disk.now in
    let next = c.in_ok-begins_at.ensures.next left part.back (tail_is setup seen c.args.gate c.args.len read left part) part.closed part.len_is clean_then in
    let none : left ≡ [] = subst (NextIs left) c.if-branch.false next in
    let same = c.begins_at.ensures.seen in
    let log = subst (λ (f : List ℕ). IsLog setup f read) (sym same) (all_read setup seen c.args.gate c.args.len read left part none) in
    let only_then : Only (g.D.Disk.seen c.begins_at.new.disk) (g.D.Disk.may_leave c.begins_at.new.disk) = λ e now. only e (c.begins_at.ensures.crash e now) ∙ sym same in
    let len_then = part.len_is ∙ ap length (sym same) in
    with_none setup d read left none (c.mend.ensures.crash setup read log part.place len_then only_then d now)

pub returns-clause-settled : goal.returns-clause-settled
returns-clause-settled g c = λ setup read left part only clean.
    let clean_then = subst IsTrue c.mend.ensures.calm clean in
    let seen = g.D.Disk.seen c.args.disk.now in
    let next = c.in_ok-begins_at.ensures.next left part.back (tail_is setup seen c.args.gate c.args.len read left part) part.closed part.len_is clean_then in
    let none : left ≡ [] = subst (NextIs left) c.if-branch.false next in
    let same = c.begins_at.ensures.seen in
    let log = subst (λ (f : List ℕ). IsLog setup f read) (sym same) (all_read setup seen c.args.gate c.args.len read left part none) in
    let only_then : Only (g.D.Disk.seen c.begins_at.new.disk) (g.D.Disk.may_leave c.begins_at.new.disk) = λ e now. only e (c.begins_at.ensures.crash e now) ∙ sym same in
    let len_then = part.len_is ∙ ap length (sym same) in
    let mended = c.in_ok-mend.ensures.mended setup read log part.place len_then only_then in
    (none, mended.0, mended.1)

pub returns-clause-crash : goal.returns-clause-crash
returns-clause-crash g c = λ setup read left part only clean d now.
    let clean_then = subst IsTrue c.mend.ensures.calm clean in
    let seen = g.D.Disk.seen c.args.disk.now in
    let next = c.in_ok-begins_at.ensures.next left part.back (tail_is setup seen c.args.gate c.args.len read left part) part.closed part.len_is clean_then in
    let none : left ≡ [] = subst (NextIs left) c.if-branch.false next in
    let same = c.begins_at.ensures.seen in
    let log = subst (λ (f : List ℕ). IsLog setup f read) (sym same) (all_read setup seen c.args.gate c.args.len read left part none) in
    let only_then : Only (g.D.Disk.seen c.begins_at.new.disk) (g.D.Disk.may_leave c.begins_at.new.disk) = λ e now. only e (c.begins_at.ensures.crash e now) ∙ sym same in
    let len_then = part.len_is ∙ ap length (sym same) in
    with_none setup d read left none (c.mend.ensures.crash setup read log part.place len_then only_then d now)
