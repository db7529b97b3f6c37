use Rattle.std.proofs.Common.{◌≡◌, ◌∙◌, [], List, ◌∷◌, ◌++◌, Option, Ok, refl, sym, ap, subst, append_assoc, append-nil}
use Rattle.up_log.specs.declared.entry.Entry.{Entry}
use Rattle.up_log.specs.Logs.{IsSettled, ReadsNext}
use Rattle.up_compact.specs.Heads.{head_after, head_of, ids_of}
use Rattle.up_compact.specs.declared.head.Head.{Head}
use Rattle.up_compact.proofs.Holding.{ids_back, step}
use Rattle.up_compact.proofs.heads.Heads.read.Goals as goal
use Rattle.up_places.specs.Places.{no_content}

pub loop-head-init : goal.loop-head-init
loop-head-init g c = λ setup batches reading clean. ([], batches, reading, refl, ap (λ (h : Head). head_after h batches) c.first-head.ensures)

pub loop-head-preserved : goal.loop-head-preserved
loop-head-preserved g c = λ setup batches reading clean.
    let was = c.loop-head.invariant setup batches reading (c.next_batch.ensures.clean clean) in
    let next = subst (λ (f : Option (List Entry)). ReadsNext g.D.Disk no_content c.next_batch.new.self setup was.0 was.1 (Ok f)) c.in-Some.is (c.in_ok-batch.ensures.reads setup was.0 was.1 was.2 clean) in
    let batch = next.0 in
    let all = append_assoc was.0 (batch ∷ []) next.1 ∙ ap (λ (l : List (List Entry)). was.0 ++ l) (sym next.2) ∙ was.3 in
    let slice : c.as_slice.result.now ≡ c.in-Some.batch = c.as_slice.ensures in
    let ids : ids_of c.as_slice.result.now ≡ ids_of batch = ap ids_of (slice ∙ next.3) ∙ ids_back no_content batch in
    let says = ap head_of (sym ids) ∙ c.in_ok-head.ensures in
    let holds = sym (step c.loop-head.head c.in_ok-head.head batch next.1 says) ∙ ap (head_after c.loop-head.head) (sym next.2) ∙ was.4 in
    (was.0 ++ batch ∷ [], next.1, next.4, all, holds)

pub returns-in-Ok : goal.returns-in-Ok
returns-in-Ok g c = λ setup batches reading clean.
    let clean_then = c.in-Ok.ensures.clean clean in
    let was = c.loop-head.invariant setup batches reading (c.next_batch.ensures.clean clean_then) in
    let next = subst (λ (f : Option (List Entry)). ReadsNext g.D.Disk no_content c.next_batch.new.self setup was.0 was.1 (Ok f)) c.in_default.is (c.in_ok-batch.ensures.reads setup was.0 was.1 was.2 clean_then) in
    let done = c.in-Ok.ensures.settled setup was.0 was.1 next.1 clean in
    let all = sym (append-nil was.0) ∙ ap (λ (l : List (List Entry)). was.0 ++ l) (sym next.0) ∙ was.3 in
    let holds = sym was.4 ∙ ap (head_after c.loop-head.head) next.0 in
    (subst (IsSettled g.D.Disk c.in-Ok.log setup) all done.1, holds)
