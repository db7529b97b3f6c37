-- How much there may be.
use Rattle.std.specs.Prelude.{ℕ}

-- how many seats a board may give out
abbrev pub max_seats : ℕ
max_seats = 65536

-- how many messages a conversation may have
abbrev pub max_messages : ℕ
max_messages = 10000
