-- The limits of a message and of a device.
use Rattle.std.specs.Prelude.{ℕ}

-- the maximum number of bytes of a head or a trailer section
abbrev pub max_head : ℕ
max_head = 16384

-- the maximum number of fields of a head or a trailer section
abbrev pub max_fields : ℕ
max_fields = 64

-- the maximum number of bytes of a chunk line, its CRLF included
abbrev pub max_line : ℕ
max_line = 256

-- the number of bytes of room that a body has at first
abbrev pub first_room : ℕ
first_room = 8192

-- the minimum size of a large body, in bytes: this many bytes are read of it before it has any room
abbrev pub large : ℕ
large = 32768

-- the interruption of a call that counts as a failure
abbrev pub max_interruptions : ℕ
max_interruptions = 1000
