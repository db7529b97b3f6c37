-- Words between spaces.
use Rattle.std.specs.Borrow.{Bor}
use Rattle.std.specs.Prelude.{◌≡◌, ℕ, ◌-◌, ◌<◌, ◌==◌, Bool, not, List, [], ◌∷◌, ◌++◌, length, take, reverse, IsTrue, Option, Some, None, if◌then◌else◌}
use Rattle.std.specs.List.{list_all}
use Rattle.httparse.specs.Ascii.{space}

-- the only blank that counts; a tab is like any other byte
abbrev pub is_space : ℕ → Bool
is_space b = b == space

-- any byte but a space
abbrev pub is_no_space : ℕ → Bool
is_no_space b = not (b == space)

-- only spaces, or nothing
abbrev pub AreSpaces : List ℕ → Type 0
AreSpaces text = IsTrue (list_all is_space text)

-- not empty, and without spaces
abbrev pub IsWord : List ℕ → Type 0
IsWord word = (0 < length word) × IsTrue (list_all is_no_space word)

-- nothing, or a text that begins with a space
abbrev pub EndsWord : List ℕ → Type 0
EndsWord [] = Unit {0}
EndsWord (b ∷ bs) = b ≡ space

-- after spaces, the text begins with the word, which is everything up to the next space, and then the rest
pub record BeginsWith (text word rest : List ℕ) : Type 0 where
  pub left : List ℕ
  pub spelled : text ≡ left ++ (word ++ rest)
  pub spaces : AreSpaces left
  pub is_word : IsWord word
  pub ends : EndsWord rest

-- ---- as functions

-- the text after its first bytes that pass the test
abbrev pub drop_while : (ℕ → Bool) → List ℕ → List ℕ
drop_while test [] = []
drop_while test (b ∷ bs) = if test b then drop_while test bs else b ∷ bs

-- without the spaces at the start
abbrev pub skip_spaces : List ℕ → List ℕ
skip_spaces text = drop_while is_space text

-- from the first space on
abbrev pub from_space : List ℕ → List ℕ
from_space text = drop_while is_no_space text

-- without the spaces at the end
abbrev pub trim_end_spaces : List ℕ → List ℕ
trim_end_spaces text = reverse (skip_spaces (reverse text))

-- up to the first space
abbrev pub until_space : List ℕ → List ℕ
until_space text = take (length text - length (from_space text)) text

-- the first word; empty if there are only spaces
abbrev pub first_word : List ℕ → List ℕ
first_word text = until_space (skip_spaces text)

-- the text after the first word
abbrev pub behind_word : List ℕ → List ℕ
behind_word text = from_space (skip_spaces text)

-- the first word and the text after it, if there is a word
abbrev pub IsFirstWord : List ℕ → Option (Bor (List ℕ) × Bor (List ℕ)) → Type 0
IsFirstWord text None = length (first_word text) ≡ 0
IsFirstWord text (Some found) = (found.0.now ≡ first_word text) × (found.1.now ≡ behind_word text) × (0 < length (first_word text))
