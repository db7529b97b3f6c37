-- The ids of terminated uploads, in buckets.
use Rattle.std.specs.Prelude.{◌≡◌, ℕ, ◌%◌, List, [], length, Some, slice_get}
use Rattle.up_events.specs.Ascending.{has}
use Rattle.up_events.specs.declared.ended.TheConstants.{BUCKETS}

-- the bucket k has exactly those of the ids that are k modulo BUCKETS; nothing is said of other ids
abbrev pub IsBucket : List ℕ → ℕ → List ℕ → Type 0
IsBucket ids k bucket = (u : ℕ) → u % BUCKETS ≡ k → has bucket u ≡ has ids u

-- each bucket has the ids that belong to it
pub record AreSpread (ids : List ℕ) (buckets : List (List ℕ)) : Type 0 where
  pub rows : length buckets ≡ BUCKETS
  pub each : (k : ℕ) (bucket : List ℕ) → slice_get buckets k ≡ Some bucket → IsBucket ids k bucket

-- `count` buckets, all empty
pub record AreEmptyBuckets (count : ℕ) (buckets : List (List ℕ)) : Type 0 where
  pub rows : length buckets ≡ count
  pub empty : (k : ℕ) (bucket : List ℕ) → slice_get buckets k ≡ Some bucket → bucket ≡ []
