-- How the bytes of an upload that may still grow are kept.
use Rattle.std.specs.Prelude.{◌≡◌, ◌+◌, ◌<◌, ◌^◌, ◌≤◌, ℕ, List, length}
use Rattle.up_message.specs.Joins.{pieced, pieced_then}
use Rattle.up_machine.specs.declared.pieces.Pieces.TheInside.{Inside}

-- the maximum room of a tail
abbrev pub tail_room : ℕ
tail_room = 65536

-- the pieces in front, and the tail after them
abbrev pub kept_bytes : Inside → List ℕ
kept_bytes a = pieced_then a.front.items a.tail.items

-- the bytes of the front are counted, and the tail has at most that room
pub record IsKept (a : Inside) : Type 0 where
  pub counted : a.count ≡ length (pieced a.front.items)
  pub small : a.count + length a.tail.items < 2 ^ 64
  pub room : length a.tail.items + a.tail.spare ≤ tail_room
