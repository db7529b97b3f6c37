-- The bytes of a run.
use Rattle.std.specs.Prelude.{ℕ, List}
use Rattle.std.specs.Arc.{arc_value}
use Rattle.up_message.specs.Joins.{pieced}
use Rattle.up_message.specs.declared.run.Shape.{Shape}
use Rattle.up_message.specs.declared.run.Shape.TheVariants.{One, Several}

-- the bytes of the one piece, or of all pieces
abbrev pub shaped : Shape → List ℕ
shaped (One piece) = piece
shaped (Several pieces) = pieced (arc_value pieces).items
