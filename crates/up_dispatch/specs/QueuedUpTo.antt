-- What was put of a lane's log into its queue.
use Rattle.std.specs.Prelude.{◌≡◌, ◌≤◌, List, length, take, Bool, true}
use Rattle.up_events.specs.declared.event.Event.{Event}
use Rattle.up_queue.specs.Line.{items_if}
use Rattle.up_queue.specs.EndViews.{QueueId}
use Rattle.up_dispatch.specs.declared.queue_cursor.QueueCursor.{QueueCursor}

-- a prefix of the log was put into the queue, and the end only after the whole log, once the book is closed
pub record IsQueuedUpTo (queue : QueueId) (log : List Event) (closed : Bool) (cursor : QueueCursor) : Type 0 where
  pub queue_is : cursor.put_end.queue ≡ queue
  pub put_is : cursor.put_end.put ≡ items_if (take cursor.position log) cursor.ended
  pub within : cursor.position ≤ length log
  pub whole : cursor.ended ≡ true → (closed ≡ true) × (cursor.position ≡ length log)
