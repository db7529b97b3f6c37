-- When there is nothing for a lane.
use Rattle.std.proofs.Common.{◌≡◌, ℕ, ◌+◌, ◌-◌, ◌≤◌, ◌<◌, List, length, get_or, take, Bool, true, false, true≢false, refl, sym, ap, ◌∙◌, subst, arith, append-nil}
use Rattle.std.proofs.Math.Seq.{take-length}
use Rattle.std.proofs.lemmas.List.{length-append, length-map, length-take-le}
use Rattle.up_events.specs.Records.{lane_log}
use Rattle.up_events.specs.declared.event.Event.{Event}
use Rattle.up_machine.specs.State.{State}
use Rattle.up_queue.specs.declared.item.Item.TheVariants as item
use Rattle.up_queue.specs.Line.{end_if, items_of, items_if}
use Rattle.up_queue.specs.EndViews.{QueueId}
use Rattle.up_dispatch.specs.QueuedUpTo.{IsQueuedUpTo}
use Rattle.up_dispatch.specs.declared.queue_cursor.QueueCursor.{QueueCursor}
use Rattle.up_dispatch.specs.Idle.{IsIdle}
use Rattle.up_dispatch.specs.Puts.{end_at}
use Rattle.up_dispatch.specs.BoardView.{ends_of, IsLawfulBoard, board_view}
use Rattle.up_dispatch.proofs.Moves.{end_is}

-- while changes are accepted no end was put
not_ended : (queue : QueueId) (log : List Event) (cursor : QueueCursor) (ended : Bool) → cursor.ended ≡ ended → IsQueuedUpTo queue log false cursor → cursor.ended ≡ false
not_ended queue log cursor true is queued = absurd (true≢false (sym (queued.whole is).0))
not_ended queue log cursor false is queued = is

-- and what was put are events alone
put_events : (queue : QueueId) (log : List Event) (cursor : QueueCursor) → IsQueuedUpTo queue log false cursor → cursor.put_end.put ≡ items_of (take cursor.position log)
put_events queue log cursor queued =
    queued.put_is ∙ ap (items_if (take cursor.position log)) (not_ended queue log cursor cursor.ended refl queued) ∙ append-nil (items_of (take cursor.position log))

pub all_put : (queue : QueueId) (log : List Event) (cursor : QueueCursor) → IsQueuedUpTo queue log false cursor → cursor.position ≡ length log → cursor.put_end.put ≡ items_of log
all_put queue log cursor queued all = put_events queue log cursor queued ∙ ap items_of (ap (λ n. take n log) all ∙ take-length log)

count_of_items : (log : List Event) → length (items_of log) ≡ length log
count_of_items log = length-map log (λ (e : Event). item.Event e)

pub put_whole : (queue : QueueId) (log : List Event) (cursor : QueueCursor) → IsQueuedUpTo queue log false cursor → cursor.put_end.put ≡ items_of log → cursor.position ≡ length log
put_whole queue log cursor queued is =
    sym (length-take-le cursor.position log queued.within) ∙ sym (count_of_items (take cursor.position log)) ∙ ap length (sym (put_events queue log cursor queued) ∙ is) ∙ count_of_items log

-- what keeps a lane idle, by the feed and the log
pub idle_if : (queue : ℕ → QueueId) (count limit : ℕ) (book : State) (cursors : List QueueCursor) (given total parts amount : ℕ) (lane taken : ℕ) (cursor : QueueCursor) → IsLawfulBoard queue count limit book cursors given total parts amount
    → lane < length cursors → cursor ≡ get_or cursors lane cursor → book.closed ≡ false → cursor.position ≡ length (lane_log book.journal lane) → taken ≡ length (lane_log book.journal lane)
    → IsIdle (board_view book cursors given total) lane taken
idle_if queue count limit book cursors given total parts amount lane taken cursor lawful within is going all as_many =
    let queued : IsQueuedUpTo (queue lane) (lane_log book.journal lane) false cursor =
    subst (λ b. IsQueuedUpTo (queue lane) (lane_log book.journal lane) b cursor) going (subst (IsQueuedUpTo (queue lane) (lane_log book.journal lane) book.closed) (sym is) (lawful.queued lane cursor within)) in
    record {
      there = omega (arith, within, lawful.lanes);
      going = going;
      put_all = ap (λ e. e.put) (end_is cursors lane cursor within is) ∙ all_put (queue lane) (lane_log book.journal lane) cursor queued all;
      taken_all = as_many;
    }

pub cursor_if : (queue : ℕ → QueueId) (count limit : ℕ) (book : State) (cursors : List QueueCursor) (given total parts amount : ℕ) (lane taken : ℕ) (cursor : QueueCursor) → IsLawfulBoard queue count limit book cursors given total parts amount
    → lane < length cursors → cursor ≡ get_or cursors lane cursor → IsIdle (board_view book cursors given total) lane taken → cursor.position ≡ length (lane_log book.journal lane)
cursor_if queue count limit book cursors given total parts amount lane taken cursor lawful within is idle =
    let queued : IsQueuedUpTo (queue lane) (lane_log book.journal lane) false cursor =
    subst (λ b. IsQueuedUpTo (queue lane) (lane_log book.journal lane) b cursor) idle.going (subst (IsQueuedUpTo (queue lane) (lane_log book.journal lane) book.closed) (sym is) (lawful.queued lane cursor within)) in
    put_whole (queue lane) (lane_log book.journal lane) cursor queued (ap (λ e. e.put) (sym (end_is cursors lane cursor within is)) ∙ idle.put_all)

-- ---- what a lane has yet to take

-- as many items were put as events at least
put_covers : (queue : QueueId) (log : List Event) (closed : Bool) (cursor : QueueCursor) → IsQueuedUpTo queue log closed cursor → cursor.position ≤ length cursor.put_end.put
put_covers queue log closed cursor queued =
    omega (arith, ap length queued.put_is, length-append (items_of (take cursor.position log)) (end_if cursor.ended), count_of_items (take cursor.position log), length-take-le cursor.position log queued.within)

pub waits_for : (queue : ℕ → QueueId) (count limit : ℕ) (book : State) (cursors : List QueueCursor) (given total parts amount : ℕ) (lane result : ℕ) (cursor : QueueCursor) → IsLawfulBoard queue count limit book cursors given total parts amount
    → lane < length cursors → cursor ≡ get_or cursors lane cursor → length (lane_log book.journal lane) - cursor.position ≤ result
    → length (lane_log book.journal lane) ≤ result + length (end_at (ends_of cursors) lane).put
waits_for queue count limit book cursors given total parts amount lane result cursor lawful within is left =
    let queued : IsQueuedUpTo (queue lane) (lane_log book.journal lane) book.closed cursor = subst (IsQueuedUpTo (queue lane) (lane_log book.journal lane) book.closed) (sym is) (lawful.queued lane cursor within) in
    omega (arith, left, put_covers (queue lane) (lane_log book.journal lane) book.closed cursor queued, ap (λ e. length e.put) (end_is cursors lane cursor within is))
