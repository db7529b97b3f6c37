-- What the fields of a head say, as the list of their names and values.
use Rattle.std.specs.Prelude.{◌≡◌, ℕ, ◌<◌, Bool, List, [], ◌∷◌, map, length, bytes_eq, reverse, flat_map, ◌==◌, if◌then◌else◌}
use Rattle.std.specs.Char.{to_ascii_lowercase}
use Rattle.httparse.specs.Ascii.{comma}
use Rattle.httparse.specs.Grammar.{skip_ows}
use Rattle.up_message.specs.declared.fields.Values.{Values}
use Rattle.up_message.specs.declared.fields.Values.TheVariants as Found

-- a name and a value
abbrev pub Field : Type 0
Field = List ℕ × List ℕ

-- whether the names are the same, ignoring case
unfoldable pub same_name : List ℕ → List ℕ → Bool
same_name a b = bytes_eq (map to_ascii_lowercase a) (map to_ascii_lowercase b)

-- the text without the spaces and tabs at its end
abbrev pub trim_end_ows : List ℕ → List ℕ
trim_end_ows text = reverse (skip_ows (reverse text))

-- the values of the fields with this name, in order
abbrev pub values : List ℕ → List Field → List (List ℕ)
values name fields = flat_map (λ f. if same_name f.0 name then f.1 ∷ [] else []) fields

-- the pieces, with a byte added at the start of the first
abbrev pub cons_first : ℕ → List (List ℕ) → List (List ℕ)
cons_first b [] = (b ∷ []) ∷ []
cons_first b (piece ∷ pieces) = (b ∷ piece) ∷ pieces

-- the pieces between commas
abbrev pub split_commas : List ℕ → List (List ℕ)
split_commas [] = [] ∷ []
split_commas (b ∷ bs) = let pieces = split_commas bs in if b == comma then [] ∷ pieces else cons_first b pieces

-- the result of looking for the values of one name
abbrev pub IsOneOf : Values → List (List ℕ) → Type 0
IsOneOf Found.Absent all = all ≡ []
IsOneOf (Found.One value) all = all ≡ value.now ∷ []
IsOneOf Found.Several all = 1 < length all
