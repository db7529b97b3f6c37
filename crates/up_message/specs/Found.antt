-- Where the bytes of a piece were found.
use Rattle.std.specs.Prelude.{ℕ, List}
use Rattle.up_message.specs.declared.piece.Found.{Found}
use Rattle.up_message.specs.declared.piece.Found.TheVariants.{InMemory, InFile}

-- the bytes, in memory or at a place
abbrev pub found_bytes : Found → List ℕ
found_bytes (InMemory bytes) = bytes.now
found_bytes (InFile place) = place.now.bytes
