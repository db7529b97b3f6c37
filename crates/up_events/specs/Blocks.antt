-- A list in blocks.
use Rattle.std.specs.Prelude.{◌≡◌, ℕ, ◌≤◌, List, [], take, drop, Vec, vec_capacity}
use Rattle.std.specs.declared.alloc.Global.{Global}

-- an empty block of this size
pub record IsNewBlock {X : Type 0} (size : ℕ) (block : Vec X Global) : Type 0 where
  pub empty : block.items ≡ []
  pub room : size ≤ vec_capacity block

-- a block has the items of the list from this place on, as many of them as the block has room for
pub record IsBlock {X : Type 0} (size : ℕ) (all : List X) (place : ℕ) (block : Vec X Global) : Type 0 where
  pub items_are : block.items ≡ take size (drop place all)
  pub room : size ≤ vec_capacity block
