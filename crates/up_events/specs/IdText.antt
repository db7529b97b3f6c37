-- The text of an id: 32 lower-case hexadecimal digits, the highest first.
use Rattle.std.specs.Prelude.{ℕ, ◌+◌, ◌/◌, ◌%◌, ◌++◌, List, [], ◌∷◌, if◌then◌else◌, nat_lt, zero, suc}

-- the ASCII code of a hexadecimal digit, a letter in lower case
abbrev pub hex_digit : ℕ → ℕ
hex_digit d = if nat_lt d 10 then 48 + d else 87 + d

-- the last `places` digits of n
unfoldable pub hex_digits : ℕ → ℕ → List ℕ
hex_digits zero n = []
hex_digits (suc places) n = hex_digits places (n / 16) ++ hex_digit (n % 16) ∷ []

-- the text of an id
abbrev pub text_of : ℕ → List ℕ
text_of id = hex_digits 32 id
