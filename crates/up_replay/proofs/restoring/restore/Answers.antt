use Rattle.std.proofs.Common.{◌∙◌, [], List, ◌∷◌, ◌++◌, Option, Ok, refl, sym, ap, subst, append_assoc, append-nil}
use Rattle.up_log.specs.declared.entry.Entry.{Entry}
use Rattle.up_log.specs.Held.{AreHeld}
use Rattle.up_log.specs.Logs.{IsSettled, ReadsNext}
use Rattle.up_log.proofs.Batches.{held_next, held_left}
use Rattle.up_replay.specs.Replay.{entries_of, replayed}
use Rattle.up_replay.proofs.ReplayLemmas.{restore_step, restore_end}
use Rattle.up_replay.proofs.restoring.restore.Goals as goal

pub loop-reader-init : goal.loop-reader-init
loop-reader-init g c = λ setup batches reading held clean. ([], batches, reading, held, refl, refl)

pub loop-reader-preserved : goal.loop-reader-preserved
loop-reader-preserved g c = λ setup batches reading held clean.
    let content = g.C.Contents.content c.args.files.now in
    let was = c.loop-reader.invariant setup batches reading held (c.next_batch.ensures.clean clean) in
    let next = subst (λ (f : Option (List Entry)). ReadsNext g.D.Disk content c.next_batch.new.self setup was.0 was.1 (Ok f)) c.in-Some.is (c.in_ok-entries.ensures.reads setup was.0 was.1 was.2 clean) in
    let first = next.0 in
    let others = next.1 in
    let here = subst (AreHeld content) next.2 was.3 in
    let entries = next.3 ∙ held_next content first others here in
    let all = append_assoc was.0 (first ∷ []) others ∙ ap (λ (l : List (List Entry)). was.0 ++ l) (sym next.2) ∙ was.4 in
    let left = next.2 ∙ ap (λ (l : List Entry). l ∷ others) (sym entries) in
    let books = restore_step c.loop-reader.book c.replay.new.book was.1 others c.in-Some.entries (replayed c.args.book.now (entries_of batches)) left c.in_ok-replay.ensures was.5 in
    (was.0 ++ first ∷ [], others, next.4, held_left content first others here, all, books)

pub returns-in-Ok : goal.returns-in-Ok
returns-in-Ok g c = λ setup batches reading held clean.
    let content = g.C.Contents.content c.args.files.now in
    let clean_then = c.in-Ok.ensures.clean clean in
    let was = c.loop-reader.invariant setup batches reading held (c.next_batch.ensures.clean clean_then) in
    let next = subst (λ (f : Option (List Entry)). ReadsNext g.D.Disk content c.next_batch.new.self setup was.0 was.1 (Ok f)) c.in_default.is (c.in_ok-entries.ensures.reads setup was.0 was.1 was.2 clean_then) in
    let done = c.in-Ok.ensures.settled setup was.0 was.1 next.1 clean in
    let all = sym (append-nil was.0) ∙ ap (λ (l : List (List Entry)). was.0 ++ l) (sym next.0) ∙ was.4 in
    (subst (IsSettled g.D.Disk c.in-Ok.log setup) all done.1, restore_end c.loop-reader.book was.1 (replayed c.args.book.now (entries_of batches)) next.0 was.5)
