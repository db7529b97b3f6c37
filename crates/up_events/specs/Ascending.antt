-- Ids in ascending order, in blocks.
use Rattle.std.specs.Prelude.{◌≡◌, ℕ, ◌*◌, ◌^◌, ◌≤◌, ◌<◌, Bool, ◌||◌, ◌==◌, Some, List, length, slice_get, Vec}
use Rattle.std.specs.List.{flat_map, list_any}
use Rattle.std.specs.List.Sorted.{IsNonDecreasing}
use Rattle.std.specs.declared.alloc.Global.{Global}
use Rattle.up_events.specs.Blocks.{IsBlock}
use Rattle.up_events.specs.declared.sorted_ids.TheConstants.{BLOCK}

-- whether an id is in the list
abbrev pub has : List ℕ → ℕ → Bool
has ids u = list_any (λ id. id == u) ids

-- the new list has this id and the ids of the old list, and no other
abbrev pub HasAdded : List ℕ → ℕ → List ℕ → Type 0
HasAdded old id new = (u : ℕ) → has new u ≡ (has old u || id == u)

-- the blocks have the ids, in order
abbrev pub AreBlocks : List ℕ → List (Vec ℕ Global) → Type 0
AreBlocks ids blocks = (k : ℕ) (block : Vec ℕ Global) → slice_get blocks k ≡ Some block → IsBlock BLOCK ids (k * BLOCK) block

-- the ids in these blocks
abbrev pub ids_in : List (Vec ℕ Global) → List ℕ
ids_in blocks = flat_map (λ (block : Vec ℕ Global). block.items) blocks

-- there are `len` ids, and they ascend
pub record AreAscending (len : ℕ) (blocks : List (Vec ℕ Global)) : Type 0 where
  pub ascends : IsNonDecreasing (ids_in blocks)
  pub counted : len ≡ length (ids_in blocks)
  pub countable : len < 2 ^ 64
  pub room : len ≤ length blocks * BLOCK
  pub are_blocks : AreBlocks (ids_in blocks) blocks
