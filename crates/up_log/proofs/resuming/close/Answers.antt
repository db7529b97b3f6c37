use Rattle.std.proofs.Common.{◌∙◌, inl, inr, ℕ, List, [], ◌∷◌, length, sym, ap, subst, arith}
use Rattle.std.specs.Prelude.{IsTrue}
use Rattle.sqlite_disk.specs.Disk.{Only, Torn}
use Rattle.up_log.specs.Blocks.{IsLog}
use Rattle.up_log.specs.Logs.{NextIs}
use Rattle.up_log.proofs.Closing.{closed, closing, on_ok, on_ok_then, tail_after, tail_before}
use Rattle.up_log.proofs.resuming.close.Goals as goal

pub returns-in_err-write_synced-clause-crash : goal.returns-in_err-write_synced-clause-crash
returns-in_err-write_synced-clause-crash g c = λ setup batches more file place size only clean d now.
    let clean_then = subst IsTrue c.write_synced.ensures.calm clean in
    let seen = g.D.Disk.seen c.args.disk.now in
    let from = c.write_synced.ensures.crash d now in
    let torn = subst (λ (f : List ℕ). Torn c.args.gate 1 f d) (only from.0 (c.begins_at.ensures.crash from.0 from.1)) from.2 in
    elim file [
      | inl log ↦
          let next = c.in_ok-begins_at.ensures.next [] log.back (tail_before setup batches more c.args.gate place seen log) log.closed size clean_then in
          let none = subst (NextIs []) c.if-branch.true next in
          absurd (omega (arith, ap length none.2))
      | inr log ↦ closing setup batches more c.args.gate place seen d log torn
    ]

pub returns-then-branch-clause-closed : goal.returns-then-branch-clause-closed
returns-then-branch-clause-closed g c = λ setup batches more file place size only clean.
    let clean_then = subst IsTrue c.write_synced.ensures.calm clean in
    let seen = g.D.Disk.seen c.args.disk.now in
    let left = g.D.Disk.seen c.write_synced.new.disk in
    let torn = subst (λ (f : List ℕ). Torn c.args.gate 1 f left) c.begins_at.ensures.seen c.write_synced.ensures.others in
    elim file [
      | inl log ↦
          let next = c.in_ok-begins_at.ensures.next [] log.back (tail_before setup batches more c.args.gate place seen log) log.closed size clean_then in
          let none = subst (NextIs []) c.if-branch.true next in
          absurd (omega (arith, ap length none.2))
      | inr log ↦ (closed setup batches more c.args.gate place seen left log torn c.in_ok-write_synced.ensures.written, c.in_ok-write_synced.ensures.synced)
    ]

pub returns-then-branch-clause-crash : goal.returns-then-branch-clause-crash
returns-then-branch-clause-crash g c = λ setup batches more file place size only clean d now.
    let clean_then = subst IsTrue c.write_synced.ensures.calm clean in
    let seen = g.D.Disk.seen c.args.disk.now in
    let from = c.write_synced.ensures.crash d now in
    let torn = subst (λ (f : List ℕ). Torn c.args.gate 1 f d) (only from.0 (c.begins_at.ensures.crash from.0 from.1)) from.2 in
    elim file [
      | inl log ↦
          let next = c.in_ok-begins_at.ensures.next [] log.back (tail_before setup batches more c.args.gate place seen log) log.closed size clean_then in
          let none = subst (NextIs []) c.if-branch.true next in
          absurd (omega (arith, ap length none.2))
      | inr log ↦ closing setup batches more c.args.gate place seen d log torn
    ]

pub returns-clause-closed : goal.returns-clause-closed
returns-clause-closed g c = λ setup batches more file place size only.
    let seen = g.D.Disk.seen c.args.disk.now in
    let same = c.begins_at.ensures.seen in
    let only_then : Only (g.D.Disk.seen c.begins_at.new.disk) (g.D.Disk.may_leave c.begins_at.new.disk) = λ e now. only e (c.begins_at.ensures.crash e now) ∙ sym same in
    let size_then = size ∙ ap length (sym same) in
    elim file [
      | inl log ↦ on_ok_then _ _ c.mend.result (c.mend.ensures.mended setup batches (subst (λ (f : List ℕ). IsLog setup f batches) (sym same) log) place size_then only_then)
      | inr log ↦ on_ok _ c.mend.result (λ clean.
          let clean_then = subst IsTrue c.mend.ensures.calm clean in
          let next = c.in_ok-begins_at.ensures.next (more ∷ []) log.back (tail_after setup batches more c.args.gate place seen log) log.closed size clean_then in
          absurd (omega (arith, ap length (subst (NextIs (more ∷ [])) c.if-branch.false next))))
    ]

pub returns-clause-crash : goal.returns-clause-crash
returns-clause-crash g c = λ setup batches more file place size only clean d now.
    let clean_then = subst IsTrue c.mend.ensures.calm clean in
    let seen = g.D.Disk.seen c.args.disk.now in
    let same = c.begins_at.ensures.seen in
    let only_then : Only (g.D.Disk.seen c.begins_at.new.disk) (g.D.Disk.may_leave c.begins_at.new.disk) = λ e now. only e (c.begins_at.ensures.crash e now) ∙ sym same in
    let size_then = size ∙ ap length (sym same) in
    elim file [
      | inl log ↦ inl (c.mend.ensures.crash setup batches (subst (λ (f : List ℕ). IsLog setup f batches) (sym same) log) place size_then only_then d now)
      | inr log ↦
          let next = c.in_ok-begins_at.ensures.next (more ∷ []) log.back (tail_after setup batches more c.args.gate place seen log) log.closed size clean_then in
          absurd (omega (arith, ap length (subst (NextIs (more ∷ [])) c.if-branch.false next)))
    ]
