-- Texts that give the reason for a refusal.
use Rattle.std.specs.Prelude.{ℕ, Bool, ◌&&◌, nat_le, List, length, Option, Some, None, if◌then◌else◌}
use Rattle.std.specs.List.{list_all}

-- a space, or a visible character of ASCII
abbrev pub is_printable : ℕ → Bool
is_printable byte = nat_le 32 byte && nat_le byte 126

-- 1 to 80 such bytes
abbrev pub is_reason : List ℕ → Bool
is_reason text = nat_le 1 (length text) && nat_le (length text) 80 && list_all is_printable text

-- the reason with this text, if it is one
abbrev pub reason_of : List ℕ → Option (List ℕ)
reason_of text = if is_reason text then Some text else None
