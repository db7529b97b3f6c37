-- The fields of a message by their name.
use Rattle.std.specs.Prelude.{ℕ, Bool, List, [], ◌∷◌, length, nat_lt, Option, Some, None, unwrap_or}
use Rattle.up_message.specs.Fields.{Field, values}

-- whether there is more than one field with this name
abbrev pub is_repeated : List ℕ → List Field → Bool
is_repeated name fields = nat_lt 1 (length (values name fields))

-- the first of these values, if there is one
abbrev pub first_of : List (List ℕ) → Option (List ℕ)
first_of [] = None
first_of (value ∷ more) = Some value

-- the value of the field with this name, if there is one; of several it is the first, but these are refused
abbrev pub value_in : List ℕ → List Field → Option (List ℕ)
value_in name fields = first_of (values name fields)

-- the same, empty if there is none
abbrev pub text_in : List ℕ → List Field → List ℕ
text_in name fields = unwrap_or (value_in name fields) []
