-- The bytes of a piece.
use Rattle.std.specs.Prelude.{ℕ, List}
use Rattle.std.specs.Arc.{arc_value}
use Rattle.up_message.specs.declared.piece.Home.{Home}
use Rattle.up_message.specs.declared.piece.Home.TheVariants.{Memory, File}

-- the bytes, in memory or in a data file
abbrev pub homed : Home → List ℕ
homed (Memory bytes) = bytes
homed (File place) = (arc_value place).bytes
