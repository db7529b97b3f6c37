-- The rule of the word that threads share, and what a thread learns from its steps.
use Rattle.std.specs.Prelude.{ℕ, ◌≡◌, ◌==◌, true, List, [], ◌∷◌, ◌++◌, length, MatchBool, Option, Some, None}
use Rattle.logbook.specs.Pages.{Cell, Step, View, Book, Named}

-- the entries of a log. A step asks to add an entry, or to add none if it only looks
abbrev pub entries_in : {E : Type 0} → List (Option E) → List E
entries_in [] = []
entries_in (None ∷ log) = entries_in log
entries_in (Some entry ∷ log) = entry ∷ entries_in log

-- the first word counts the entries; the second, without which there is no book, stays 0
abbrev pub IsCounted : {E : Type 0} → List Cell → List (Option E) → Type 0
IsCounted cells log = cells ≡ (length (entries_in log), true) ∷ (0, true) ∷ []

abbrev pub word_of : Book → Named
word_of book = record { tracked = true; key = 0; book = book }

-- the entry was added to everything that had been seen; or the history was longer, and was seen
abbrev pub Adds : {E : Type 0} → Step (Option E) → View (Option E) ℕ → ℕ → View (Option E) ℕ → Type 0
Adds step before found after =
    MatchBool (found == step.old) (entries_in after.0 ≡ entries_in before.0 ++ entries_in (step.ask ∷ [])) (length (entries_in after.0) ≡ found)
