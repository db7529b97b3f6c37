use Rattle.std.proofs.Common.{◌≡◌, ◌∙◌, ◌+◌, ℕ, List, [], ◌∷◌, ◌++◌, length, Option, Ok, sym, ap, subst, append_assoc}
use Rattle.up_log.specs.Held.{AreHeld}
use Rattle.up_log.specs.Logs.{IsSettled, ReadsAt}
use Rattle.up_log.proofs.Batches.{held_left, held_next}
use Rattle.up_log.specs.declared.entry.Entry.{Entry}
use Rattle.up_compact.specs.Shorter.{kept}
use Rattle.up_compact.specs.Surveys.{has_id}
use Rattle.up_compact.specs.Writing.{HasEntries, carried_out, staying}
use Rattle.up_compact.proofs.Adding.{count_more, staying_more}
use Rattle.up_compact.proofs.writing.catch_up.Goals as goal

pub loop-entries-preserved : goal.loop-entries-preserved
loop-entries-preserved g c = record {
  added = λ setup read left settled held behind entries clean.
      let content = g.C.Contents.content c.args.files.now in
      let loop = c.loop-entries in
      let voids = has_id c.args.left_out.now.voids in
      let uploads = has_id c.args.left_out.now.uploads in
      let was = loop.invariant.added setup read left settled held behind entries (c.batch_at.ensures.clean clean) in
      let now = subst (IsSettled g.D.Disk loop.log setup) (sym was.2) (loop.invariant.kept setup (read ++ left) settled) in
      let next = subst (λ (f : Option (List Entry × ℕ)). ReadsAt content setup was.0 was.1 (Ok f)) c.in-Some.is (c.in_ok-entries.ensures.reads setup was.0 was.1 now was.4.0 clean) in
      let batch = next.0 in
      let here = subst (AreHeld content) next.2 was.3 in
      let slice : c.as_slice.result.now ≡ batch = c.as_slice.ensures ∙ next.3 ∙ held_next content batch next.1 here in
      let all = append_assoc was.0 (batch ∷ []) next.1 ∙ ap (λ (l : List (List Entry)). was.0 ++ l) (sym next.2) ∙ was.2 in
      let more = staying_more voids uploads was.0 batch loop.progress.count was.4.1 in
      let added = c.in_ok-progress.ensures.added setup (staying voids uploads was.0) was.5 in
      let are = ap (λ (l : List Entry). staying voids uploads was.0 ++ kept uploads (carried_out voids loop.progress.count l)) slice ∙ sym more in (
        was.0 ++ batch ∷ [],
        next.1,
        all,
        held_left content batch next.1 here,
        (
          c.in_ok-progress.ensures.further.0 ∙ next.4,
          c.in_ok-progress.ensures.further.1 ∙ ap (λ (l : List Entry). loop.progress.count + length l) slice ∙ count_more was.0 batch loop.progress.count was.4.1,
        ),
        subst (HasEntries g.S.Disk c.add_staying.new.shorter setup) are added,
      );
  kept = λ setup batches settled. c.batch_at.ensures.kept setup batches (c.loop-entries.invariant.kept setup batches settled);
}
