-- Ids that begin with the byte of a shard.
use Rattle.std.specs.Prelude.{◌≡◌, ℕ, ◌+◌, ◌*◌, ◌/◌, ◌%◌, ◌^◌, Option, Some, None, take}
use Rattle.up_events.specs.IdText.{hex_digits, text_of}

-- the first of the sixteen bytes of an id
abbrev pub first_byte : ℕ → ℕ
first_byte id = id / 2 ^ 120

-- a number, with the byte of the shard as its first byte if there is a shard
abbrev pub in_shard : Option ℕ → ℕ → ℕ
in_shard (Some byte) number = byte * 2 ^ 120 + number % 2 ^ 120
in_shard None number = number

-- the first two digits of an id's text are those of its first byte
abbrev pub TextsTellTheirByte : Type 0
TextsTellTheirByte = (id : ℕ) → take 2 (text_of id) ≡ hex_digits 2 (first_byte id)
