use Rattle.std.proofs.Common.{◌∙◌, ◌+◌, ℕ, List, ◌∷◌, ◌++◌, length, drop, sym, ap}
use Rattle.std.proofs.lemmas.Result.{err_from_is_err_and}
use Rattle.up_log.specs.declared.entry.Entry.{Entry}
use Rattle.up_log.specs.Blocks.{blocks}
use Rattle.up_log.specs.Spelling.{batch}
use Rattle.up_log.proofs.Parts.{goes_on, tail_is}
use Rattle.up_log.proofs.Places.{none_left, part_of, some_left}
use Rattle.up_log.proofs.appending.Log.batch_at.Goals as goal

pub returns-then-place-self-clause-reads : goal.returns-then-place-self-clause-reads
returns-then-place-self-clause-reads g c = λ setup read left settled is clean.
    none_left setup c.args.self.now.gate c.args.place read left settled.place is c.if-place-self.true

pub returns-in_err-len-clause-reads : goal.returns-in_err-len-clause-reads
returns-in_err-len-clause-reads g c = λ setup read left settled is clean.
    let p = err_from_is_err_and c.from_residual.result c.from_residual.ensures.1 in
    rw (p.1, p.2) c.in_err-len.ensures.fault

pub returns-in_err-entries-clause-reads : goal.returns-in_err-entries-clause-reads
returns-in_err-entries-clause-reads g c = λ setup read left settled is clean.
    let seen = g.D.Disk.seen c.args.self.now.device in
    let place = c.args.place in
    let len_is = c.in_ok-len.ensures.len (c.block_at.ensures.clean clean) in
    let part = part_of setup seen place c.in_ok-len.len read left settled.file is len_is in
    let found = some_left setup c.args.self.now.gate place read left settled.place is c.if-place-self.false in
    let same = c.len_of.ensures.seen in
    let tail = ap (λ (l : List ℕ). drop place l) same ∙ tail_is setup seen place c.in_ok-len.len read left part ∙ ap (λ (l : List (List Entry)). blocks l ++ part.back) found.2 in
    let p = err_from_is_err_and c.from_residual-in_err-entries.result c.from_residual-in_err-entries.ensures.1 in
    rw (p.1, p.2) (c.in_err-entries.ensures.block found.0 found.1 part.back tail (len_is ∙ ap length (sym same)) clean)

pub returns-clause-reads : goal.returns-clause-reads
returns-clause-reads g c = λ setup read left settled is clean.
    let seen = g.D.Disk.seen c.args.self.now.device in
    let place = c.args.place in
    let len = c.in_ok-len.len in
    let len_is = c.in_ok-len.ensures.len (c.block_at.ensures.clean clean) in
    let part = part_of setup seen place len read left settled.file is len_is in
    let found = some_left setup c.args.self.now.gate place read left settled.place is c.if-place-self.false in
    let same = c.len_of.ensures.seen in
    let tail = ap (λ (l : List ℕ). drop place l) same ∙ tail_is setup seen place len read left part ∙ ap (λ (l : List (List Entry)). blocks l ++ part.back) found.2 in
    let block = c.in_ok-entries.ensures.block found.0 found.1 part.back tail (len_is ∙ ap length (sym same)) clean in
    (found.0, found.1, found.2, block.0, (goes_on setup seen place len c.in_ok-entries.next read left found.1 found.0 part found.2 block.1).place)
