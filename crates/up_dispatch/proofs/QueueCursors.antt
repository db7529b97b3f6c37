-- What keeps a lane's queue in step with its log.
use Rattle.std.proofs.Common.{◌≡◌, ℕ, ◌+◌, ◌<◌, List, [], ◌∷◌, ◌++◌, Some, Result, Ok, Err, OnOk, length, take, drop, slice_get, get_or, Bool, true, false, true≢false, refl, sym, ap, ◌∙◌, subst, arith, length-append, append-nil, take-append-drop}
use Rattle.std.specs.Result.{is_err}
use Rattle.std.proofs.lemmas.Option.{get_or_from_slice_get, slice_get_within}
use Rattle.std.proofs.lemmas.List.{take_more, take-append-le, map-append}
use Rattle.up_events.specs.Log.{IsLawful}
use Rattle.up_events.specs.declared.event.Event.{Event}
use Rattle.up_queue.specs.declared.item.Item.{Item}
use Rattle.up_queue.specs.declared.item.Item.TheVariants as item
use Rattle.up_queue.specs.Line.{items_of, items_if, IsOrderly}
use Rattle.up_queue.specs.EndViews.{PutEndView, QueueId, with_put}
use Rattle.up_events.proofs.FrontLemmas.{fronts_lawful}
use Rattle.up_queue.proofs.Orders.{orderly_events, orderly_ended}
use Rattle.up_dispatch.specs.declared.queue_cursor.QueueCursor.{QueueCursor}
use Rattle.up_dispatch.specs.QueuedUpTo.{IsQueuedUpTo}

pub lawful_take : (n : ℕ) (log : List Event) → IsLawful log → IsLawful (take n log)
lawful_take n log l = fronts_lawful (take n log) (drop n log) (subst IsLawful (sym (take-append-drop n log)) l)

items_next : (log : List Event) (n : ℕ) (d : Event) → n < length log → items_of (take n log) ++ item.Event (get_or log n d) ∷ [] ≡ items_of (take (n + 1) log)
items_next log n d less = sym (ap items_of (take_more log n d less) ∙ map-append (λ (e : Event). item.Event e) (take n log) (get_or log n d ∷ []))

going_is : (put : List Item) (xs : List Event) (ended : Bool) → put ≡ items_if xs ended → ended ≡ false → put ≡ items_of xs
going_is put xs ended is going = is ∙ ap (items_if xs) going ∙ append-nil (items_of xs)

-- the end was not put where events are left
pub still_going : (log : List Event) (closed ended : Bool) (position : ℕ) → (ended ≡ true → (closed ≡ true) × (position ≡ length log)) → position < length log → ended ≡ false
still_going log closed true position whole less = absurd (omega (arith, (whole refl).1))
still_going log closed false position whole less = refl

-- the next event of the log may be put
pub orderly_event : (queue : QueueId) (log : List Event) (closed : Bool) (cursor : QueueCursor) (d : Event) → IsQueuedUpTo queue log closed cursor → IsLawful log → cursor.position < length log → IsOrderly (cursor.put_end.put ++ item.Event (get_or log cursor.position d) ∷ [])
orderly_event queue log closed cursor d queued lawful less =
    let going = still_going log closed cursor.ended cursor.position queued.whole less in
    let was = going_is cursor.put_end.put (take cursor.position log) cursor.ended queued.put_is going in
    subst IsOrderly (sym (ap (λ l. l ++ item.Event (get_or log cursor.position d) ∷ []) was ∙ items_next log cursor.position d less)) (orderly_events (take (cursor.position + 1) log) (lawful_take (cursor.position + 1) log lawful))

-- and the end, behind any beginning of it
pub orderly_end : (queue : QueueId) (log : List Event) (closed : Bool) (cursor : QueueCursor) → IsQueuedUpTo queue log closed cursor → IsLawful log → cursor.ended ≡ false → IsOrderly (cursor.put_end.put ++ item.End ∷ [])
orderly_end queue log closed cursor queued lawful going =
    let was = going_is cursor.put_end.put (take cursor.position log) cursor.ended queued.put_is going in
    subst IsOrderly (sym (ap (λ l. l ++ item.End ∷ []) was)) (orderly_ended (take cursor.position log) (lawful_take cursor.position log lawful))

-- a log that grows while changes are accepted
pub queued_grown : (queue : QueueId) (log more : List Event) (cursor : QueueCursor) → IsQueuedUpTo queue log false cursor → IsQueuedUpTo queue (log ++ more) false cursor
queued_grown queue log more cursor queued = record {
  queue_is = queued.queue_is;
  put_is = queued.put_is ∙ ap (λ l. items_if l cursor.ended) (sym (take-append-le cursor.position log more queued.within));
  within = omega (arith, queued.within, length-append log more);
  whole = λ e. absurd (true≢false (sym (queued.whole e).0));
}

pub queued_closed : (queue : QueueId) (log : List Event) (closed : Bool) (cursor : QueueCursor) → IsQueuedUpTo queue log closed cursor → IsQueuedUpTo queue log true cursor
queued_closed queue log closed cursor queued = record { queue_is = queued.queue_is; put_is = queued.put_is; within = queued.within; whole = λ e. (refl, (queued.whole e).1) }

-- ---- one more event

pub where_ok : {T E : Type 0} {P : Type 0} (r : Result T E) → false ≡ is_err r → OnOk r P → P
where_ok (Ok x) e p = p
where_ok (Err x) e p = absurd (true≢false (sym e))

pub queued_event : (queue : QueueId) (log : List Event) (closed : Bool) (cursor : QueueCursor) (event : Event) (new : PutEndView) → IsQueuedUpTo queue log closed cursor → slice_get log cursor.position ≡ Some event → new ≡ with_put cursor.put_end (item.Event event) → IsQueuedUpTo queue log closed (record { put_end = new; position = cursor.position + 1; ended = cursor.ended })
queued_event queue log closed cursor event new queued at is =
    let less = slice_get_within log cursor.position event at in
    let going = still_going log closed cursor.ended cursor.position queued.whole less in
    let was = going_is cursor.put_end.put (take cursor.position log) cursor.ended queued.put_is going in
    let read : event ≡ get_or log cursor.position event = sym (get_or_from_slice_get log cursor.position event event at) in
    rw is (record {
      queue_is = queued.queue_is;
      put_is = ap (λ l. l ++ item.Event event ∷ []) was ∙ ap (λ e. items_of (take cursor.position log) ++ item.Event e ∷ []) read ∙ items_next log cursor.position event less
          ∙ sym (ap (items_if (take (cursor.position + 1) log)) going ∙ append-nil (items_of (take (cursor.position + 1) log)));
      within = omega (arith, less);
      whole = λ e. absurd (true≢false (sym e ∙ going));
    })
