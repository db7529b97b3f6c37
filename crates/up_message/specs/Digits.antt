-- Decimal numbers.
use Rattle.std.specs.Prelude.{ℕ, Bool, ◌&&◌, List, length, nat_lt}
use Rattle.std.specs.List.{list_all}
use Rattle.std.specs.Char.{is_ascii_digit}

-- one or more decimal digits
abbrev pub is_digits : List ℕ → Bool
is_digits text = nat_lt 0 (length text) && list_all is_ascii_digit text
