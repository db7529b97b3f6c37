use Rattle.std.proofs.Common.{◌≤◌, ◌+◌, ℕ, List, length, arith, ◌∙◌, subst}
use Rattle.std.proofs.lemmas.Result.{err_from_is_err_and}
use Rattle.up_log.specs.Staging.{closed_body, IsStagedTo}
use Rattle.up_log.proofs.Pieces.{before, before_next, end_held, end_touches, entry_fits}
use Rattle.up_log.proofs.staging.write_body.Goals as goal

pub returns-in_err-at-clause-whole : goal.returns-in_err-at-clause-whole
returns-in_err-at-clause-whole g c =
    let entries = c.args.entries.now in
    let i = c.loop-logged.logged-index in
    let s = c.in_err-at.ensures.staged (c.args.gate + 1) (length (closed_body entries)) (before entries i) c.args.disk.now c.loop-logged.invariant
    (entry_fits entries i c.logged-item.result c.logged-item.is c.loop-logged-test.true) in
    rw (err_from_is_err_and c.from_residual.result c.from_residual.ensures.1).1 (s.0, tt)

pub loop-logged-preserved : goal.loop-logged-preserved
loop-logged-preserved g c =
    let entries = c.args.entries.now in
    let i = c.loop-logged.logged-index in
    let x = c.logged-item.result in
    let size = length (closed_body entries) in
    let s = c.in_ok-at.ensures.staged (c.args.gate + 1) size (before entries i) c.args.disk.now c.loop-logged.invariant (entry_fits entries i x c.logged-item.is c.loop-logged-test.true) in
    subst (λ (l : List ℕ). IsStagedTo g.D.Disk (c.args.gate + 1) size l c.args.disk.now c.stage_entry.new.disk c.in_ok-at.at c.stage_entry.new.room.items) (before_next entries i x c.logged-item.is c.loop-logged-test.true) s.1

pub returns-in_err-write_on-clause-whole : goal.returns-in_err-write_on-clause-whole
returns-in_err-write_on-clause-whole g c =
    let l = c.loop-logged in
    let w = c.write_on.ensures in
    let touches = end_touches g.D.Disk c.args.gate c.args.entries.now c.args.disk.now l.disk c.write_on.new.disk l.at l.logged-index l.room.items c.deref.result.now
    (omega (arith, c.loop-logged-test.false)) (c.deref.ensures.value ∙ c.in_ok-put.ensures.ok) l.invariant w.others w.crash w.calm in
    rw (err_from_is_err_and c.from_residual-in_err-write_on.result c.from_residual-in_err-write_on.ensures.1).1 (touches, tt)

pub returns-clause-whole : goal.returns-clause-whole
returns-clause-whole g c =
    let l = c.loop-logged in
    let w = c.in_ok-write_on.ensures in
    let past : length c.args.entries.now ≤ l.logged-index = omega (arith, c.loop-logged-test.false) in
    let is = c.deref.ensures.value ∙ c.in_ok-put.ensures.ok in (
      end_touches g.D.Disk c.args.gate c.args.entries.now c.args.disk.now l.disk c.write_on.new.disk l.at l.logged-index l.room.items c.deref.result.now past is l.invariant w.others w.crash w.calm,
      end_held g.D.Disk c.args.gate c.args.entries.now c.args.disk.now l.disk c.write_on.new.disk l.at l.logged-index l.room.items c.deref.result.now past is l.invariant w.others w.crash w.calm c.in_ok-write_on.field-0 w.next w.written,
    )
