-- What contracts see of the two ends of a queue.
use Rattle.std.specs.Prelude.{◌≡◌, ℕ, ◌≤◌, List, [], ◌∷◌, ◌++◌, length}
use Rattle.atomic_table.specs.Seated.{TableId}
use Rattle.up_queue.specs.declared.item.Item.{Item}
use Rattle.up_queue.specs.Line.{IsQueueState}

-- the identity of a queue: no two queues have the same
abbrev pub QueueId : Type 0
QueueId = TableId

-- the end that puts: its queue, the capacity of that queue, and what was put, in order
pub record PutEndView : Type 0 where
  pub queue : QueueId
  pub capacity : ℕ
  pub put : List Item

-- the end that takes: its queue, the capacity of that queue, and what was taken, in order
pub record TakeEndView : Type 0 where
  pub queue : QueueId
  pub capacity : ℕ
  pub taken : List Item

-- the two ends of one queue, through which nothing has gone yet
pub record AreNewEnds (capacity : ℕ) (put_end : PutEndView) (take_end : TakeEndView) : Type 0 where
  pub one_queue : take_end.queue ≡ put_end.queue
  pub capacities : (put_end.capacity ≡ capacity) × (take_end.capacity ≡ capacity)
  pub empty : (put_end.put ≡ []) × (take_end.taken ≡ [])

-- the end after one more item
abbrev pub with_put : PutEndView → Item → PutEndView
with_put end item = record end { put = end.put ++ item ∷ [] }

abbrev pub with_taken : TakeEndView → Item → TakeEndView
with_taken end item = record end { taken = end.taken ++ item ∷ [] }

-- as far as this end knows, the queue may be full: at least as many items were put as it can hold. So an end that has
-- put fewer finds room. There is no such statement about a take: it may return nothing although the queue holds an item
abbrev pub MayBeFull : PutEndView → Type 0
MayBeFull end = end.capacity ≤ length end.put

-- what was put is what was taken, followed by that many items
abbrev pub AreLeft : PutEndView → TakeEndView → ℕ → Type 0
AreLeft put_end take_end left =
    (held : List Item) × IsQueueState put_end.capacity put_end.put take_end.taken held × (left ≡ length held)

-- an identity that no queue has
abbrev pub no_queue : QueueId
no_queue = record { words = 0; slots = 0; views_name = 0; atom = 0; block = 0; offset = 0; slot_names = [] }
