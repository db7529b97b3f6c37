-- A list that stands in blocks.
use Rattle.std.proofs.Common.{◌≡◌, ℕ, ◌+◌, ◌-◌, ◌≤◌, ◌<◌, min, List, length, take, drop, Vec, sym, ap, ◌∙◌, get_or}
use Rattle.std.proofs.Math.Seq.{take-nil}
use Rattle.std.specs.declared.alloc.Global.{Global}
use Rattle.std.proofs.lemmas.List.{drop_all, get_or-drop, get_or-take, length-drop, length-take}
use Rattle.up_events.specs.Blocks.{IsBlock, IsNewBlock}

pub block_length : {X : Type 0} (size : ℕ) (all : List X) (place : ℕ) (block : Vec X Global) → IsBlock size all place block → length block.items ≡ min size (length all - place)
block_length size all place block is = ap length is.items_are ∙ length-take size (drop place all) ∙ ap (min size) (length-drop place all)

pub block_read : {X : Type 0} (size : ℕ) (all : List X) (place i : ℕ) (block : Vec X Global) (d : X) → IsBlock size all place block → i < size → get_or block.items i d ≡ get_or all (place + i) d
block_read size all place i block d is within = ap (λ l. get_or l i d) is.items_are ∙ get_or-take size (drop place all) i d within ∙ get_or-drop place all i d

pub new_block : {X : Type 0} (size : ℕ) (all : List X) (place : ℕ) (block : Vec X Global) → length all ≤ place → IsNewBlock size block → IsBlock size all place block
new_block size all place block past new = record {
  items_are = new.empty ∙ sym (ap (take size) (drop_all place all past) ∙ take-nil size);
  room = new.room;
}
