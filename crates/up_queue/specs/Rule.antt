-- The rule of a queue, about the items in it and what each pass knows.
use Rattle.std.specs.Prelude.{◌≡◌, ℕ, Bool, true, false, List, []}
use mathlib.Core.Option.{some}
use lib.ListN.{get_elem?}
use Rattle.up_queue.specs.declared.item.Item.{Item}
use Rattle.up_queue.specs.declared.rule.EndView.{EndView}
use Rattle.up_queue.specs.Line.{IsQueueState}

abbrev pub end_view : Bool → Bool → ℕ → List Item → List Item → EndView
end_view puts takes capacity put taken = record { puts = puts; takes = takes; capacity = capacity; put = put; taken = taken }

-- what the put end knows
abbrev pub putting : ℕ → List Item → EndView
putting capacity put = end_view true false capacity put []

-- what the take end knows
abbrev pub taking : ℕ → List Item → EndView
taking capacity taken = end_view false true capacity [] taken

-- if this pass puts, it is the only one that does, and knows what was put; if it takes, it is the only one that does,
-- and knows what was taken
pub record IsRight (putter taker capacity : ℕ) (put taken : List Item) (pass : ℕ) (v : EndView) : Type 0 where
  pub puts : v.puts ≡ true → (pass ≡ putter) × (v.capacity ≡ capacity) × (v.put ≡ put)
  pub takes : v.takes ≡ true → (pass ≡ taker) × (v.capacity ≡ capacity) × (v.taken ≡ taken)

-- what was put is what was taken, followed by the items in the queue, and what each pass knows is right
pub record IsInOrder (items : List Item) (views : List EndView) : Type 0 where
  pub putter : ℕ
  pub taker : ℕ
  pub capacity : ℕ
  pub put : List Item
  pub taken : List Item
  pub line : IsQueueState capacity put taken items
  pub known : (pass : ℕ) (v : EndView) → get_elem? views pass ≡ some v → IsRight putter taker capacity put taken pass v
