use Rattle.std.proofs.Common.{◌∙◌, ◌+◌, ℕ, List, [], ◌∷◌, ◌++◌, length, drop, sym, ap, subst}
use Rattle.up_log.specs.declared.entry.Entry.{Entry}
use Rattle.up_log.specs.Blocks.{blocks}
use Rattle.up_log.specs.Logs.{IsFileReadUpTo, NextIs}
use Rattle.up_log.specs.Spelling.{batch}
use Rattle.up_log.proofs.Parts.{goes_on, tail_is}
use Rattle.up_log.proofs.reader.LogReader.next_batch.Goals as goal

pub returns-clause-reads : goal.returns-clause-reads
returns-clause-reads g c = λ setup read left reading clean.
    let part = reading.0 in
    let gate = c.args.self.now.gate in
    let len = c.args.self.now.len in
    let seen = g.D.Disk.seen c.args.self.now.device in
    let tail = tail_is setup seen gate len read left part in
    let next = subst (NextIs left) c.if-not-branch.false (c.in_ok-begins_at.ensures.next left part.back tail part.closed part.len_is (c.block_at.ensures.clean clean)) in
    let first = next.0 in
    let others = next.1 in
    let same = c.begins_at.ensures.seen in
    let tail_then = ap (λ (l : List ℕ). drop gate l) same ∙ tail ∙ ap (λ (l : List (List Entry)). blocks l ++ part.back) next.2 in
    let block = c.in_ok-entries.ensures.block first others part.back tail_then (part.len_is ∙ ap length (sym same)) clean in
    let on = goes_on setup seen gate len c.in_ok-entries.gate read left others first part next.2 block.1 in
    let all = c.block_at.ensures.seen ∙ same in (
      first,
      others,
      next.2,
      block.0,
      (
        subst (λ (f : List ℕ). IsFileReadUpTo setup f c.in_ok-entries.gate len (read ++ first ∷ []) others) (sym all) on,
        λ d now. reading.1 d (c.begins_at.ensures.crash d (c.block_at.ensures.crash d now)) ∙ sym all,
      ),
    )
