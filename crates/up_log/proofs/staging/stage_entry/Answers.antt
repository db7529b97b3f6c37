use Rattle.std.proofs.Common.{◌≡◌, ◌≤◌, ◌++◌, [], ℕ, List, length, IfOk, arith, ◌∙◌, ap, sym, subst, append_assoc, length-append}
use Rattle.std.proofs.lemmas.Grind.{common_steps}
use Rattle.std.proofs.lemmas.Result.{err_from_is_err_and}
use Rattle.up_log.specs.Spelling.{entry}
use Rattle.up_log.specs.Staging.{IsStagedTo}
use Rattle.up_log.proofs.Pieces.{put_more, flushed, flush_touches, if_flushed}
use Rattle.up_log.proofs.staging.stage_entry.Goals as goal

pub returns-clause-staged : goal.returns-clause-staged
returns-clause-staged g c = λ start size done first s fits.
    let front = c.parts.result.0.now in
    let back = c.parts.result.1.now in
    let room = c.deref.result.now in
    let r = c.write_on-2.result in
    let new = c.write_on-2.new.disk in
    let long = ap length c.parts.ensures in
    let room_is = c.deref.ensures.value ∙ c.in_ok-put.ensures.ok in
    let s1 = subst (IsStagedTo g.D.Disk start size (done ++ front) first c.args.disk.now c.args.at) (sym room_is) (put_more g.D.Disk start size done front first c.args.disk.now c.args.at c.args.room.now.items s) in
    let w = c.write_on.ensures in
    let s2 = flushed g.D.Disk start size (done ++ front) first c.args.disk.now c.write_on.new.disk c.args.at room s1 (omega (arith, fits, long, length-append done front, length-append front back))
    w.others w.crash w.calm c.in_ok-next.next c.in_ok-next.ensures.next c.in_ok-next.ensures.written in
    let s3 = put_more g.D.Disk start size (done ++ front) back first c.write_on.new.disk c.in_ok-next.next [] s2 in
    let v = c.write_on-2.ensures in
    let in_all : length ((done ++ front) ++ back) ≤ size = omega (arith, fits, long, length-append (done ++ front) back, length-append done front, length-append front back) in
    let s4 = if_flushed g.D.Disk start size ((done ++ front) ++ back) first c.write_on.new.disk new c.in_ok-next.next back s3 in_all v.others v.crash v.calm r v.next v.written in
    let are : (done ++ front) ++ back ≡ done ++ entry c.args.logged.now = append_assoc done front back ∙ ap (λ (l : List ℕ). done ++ l) c.parts.ensures in
    let s5 = subst (λ (l : List ℕ). IfOk r (λ next. IsStagedTo g.D.Disk start size ((done ++ front) ++ back) first new next l)) (sym c.clear.ensures.items) s4 in (
      flush_touches g.D.Disk start size ((done ++ front) ++ back) first c.write_on.new.disk new c.in_ok-next.next back s3 in_all v.others v.crash v.calm,
      subst (λ (l : List ℕ). IfOk r (λ next. IsStagedTo g.D.Disk start size l first new next c.clear.new.self.items)) are s5,
    )

pub returns-in_err-put-clause-staged : goal.returns-in_err-put-clause-staged
returns-in_err-put-clause-staged g c = λ start size done first s fits. rw (err_from_is_err_and c.from_residual.result c.from_residual.ensures.1).1 (s.touched, tt)

pub returns-in_err-next-clause-staged : goal.returns-in_err-next-clause-staged
returns-in_err-next-clause-staged g c = λ start size done first s fits.
    let front = c.parts.result.0.now in
    let room_is = c.deref.ensures.value ∙ c.in_ok-put.ensures.ok in
    let s1 = subst (IsStagedTo g.D.Disk start size (done ++ front) first c.args.disk.now c.args.at) (sym room_is) (put_more g.D.Disk start size done front first c.args.disk.now c.args.at c.args.room.now.items s) in
    let w = c.write_on.ensures in
    let touched = flush_touches g.D.Disk start size (done ++ front) first c.args.disk.now c.write_on.new.disk c.args.at c.deref.result.now s1
    (omega (arith, fits, ap length c.parts.ensures, length-append done front, length-append front c.parts.result.1.now)) w.others w.crash w.calm in
    rw (err_from_is_err_and c.from_residual-in_err-next.result c.from_residual-in_err-next.ensures.1).1 (touched, tt)

pub returns-then-is_empty-clause-staged : goal.returns-then-is_empty-clause-staged
returns-then-is_empty-clause-staged g c = grind (arith, common_steps)
