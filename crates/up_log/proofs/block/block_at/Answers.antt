use Rattle.std.proofs.Common.{◌∙◌, ◌+◌, ℕ, ap, take, drop, List}
use Rattle.std.proofs.lemmas.Result.{err_from_is_err_and}
use Rattle.up_log.proofs.Batches.{batch_is}
use Rattle.up_log.proofs.block.block_at.Goals as goal

pub returns-in_err-size-clause-block : goal.returns-in_err-size-clause-block
returns-in_err-size-clause-block g c = λ first others back is len clean.
    let p = err_from_is_err_and c.from_residual.result c.from_residual.ensures.1 in
    rw (p.1, p.2) (c.in_err-size.ensures.size first others back is len clean)

pub returns-in_err-entries-clause-block : goal.returns-in_err-entries-clause-block
returns-in_err-entries-clause-block g c = λ first others back is len clean.
    let p = err_from_is_err_and c.from_residual-in_err-entries.result c.from_residual-in_err-entries.ensures.1 in
    let size = c.in_ok-size.ensures.size first others back is len (c.batch_from.ensures.clean clean) in
    let bytes = ap (λ (l : List ℕ). take c.in_ok-size.size (drop (c.args.gate + 9) l)) c.size_at.ensures.seen ∙ batch_is first others back (g.D.Disk.seen c.args.disk.now) c.args.gate is c.in_ok-size.size size in
    rw (p.1, p.2) (c.in_err-entries.ensures.entries first bytes clean)

pub returns-clause-block : goal.returns-clause-block
returns-clause-block g c = λ first others back is len clean.
    let size = c.in_ok-size.ensures.size first others back is len (c.batch_from.ensures.clean clean) in
    let bytes = ap (λ (l : List ℕ). take c.in_ok-size.size (drop (c.args.gate + 9) l)) c.size_at.ensures.seen ∙ batch_is first others back (g.D.Disk.seen c.args.disk.now) c.args.gate is c.in_ok-size.size size in
    (c.in_ok-entries.ensures.entries first bytes clean, ap (λ (n : ℕ). c.args.gate + 9 + n) size)
