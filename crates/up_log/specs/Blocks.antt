-- The content of a log file: a heading, and then batches of entries, each in a block after a gate.
use Rattle.std.specs.Prelude.{◌≡◌, ◌≢◌, ◌⊎◌, ℕ, ◌≤◌, List, [], ◌∷◌, ◌++◌, length}
use Rattle.std.specs.List.{flat_map}
use Rattle.up_log.specs.declared.entry.Entry.{Entry}
use Rattle.up_log.specs.declared.setup.Setup.{Setup}
use Rattle.up_log.specs.Spelling.{word, batch}

-- the number of bytes of the batch, and the batch
abbrev pub body : List Entry → List ℕ
body entries = word (length (batch entries)) ++ batch entries

-- an open gate, and the body
abbrev pub block : List Entry → List ℕ
block entries = 1 ∷ body entries

abbrev pub blocks : List (List Entry) → List ℕ
blocks batches = flat_map block batches

-- "up log" and the end of a line
abbrev pub magic : List ℕ
magic = 117 ∷ 112 ∷ 32 ∷ 108 ∷ 111 ∷ 103 ∷ 13 ∷ 10 ∷ []

-- the type of the file, the version of its format, and the numbers of the server: 32 bytes
unfoldable pub heading : Setup → List ℕ
heading setup = magic ++ (word 1 ++ (word setup.lanes ++ word setup.max_size))

-- the start of a log file
unfoldable pub beginning : Setup → List ℕ
beginning setup = 1 ∷ heading setup

-- the heading and these batches
abbrev pub written : Setup → List (List Entry) → List ℕ
written setup batches = beginning setup ++ blocks batches

-- no gate, a gate with nothing after it, or a gate that is not open
abbrev pub IsClosed : List ℕ → Type 0
IsClosed [] = Unit {0}
IsClosed (gate ∷ []) = Unit {0}
IsClosed (gate ∷ next ∷ rest) = gate ≢ 1

-- a file contains these batches: their blocks, and no open block after them
pub record IsLog (setup : Setup) (file : List ℕ) (batches : List (List Entry)) : Type 0 where
  pub back : List ℕ
  pub whole : file ≡ written setup batches ++ back
  pub closed : IsClosed back

-- the blocks of these batches, then a gate that is not open, and then whatever a crash left there
pub record IsAtRest (setup : Setup) (file : List ℕ) (batches : List (List Entry)) : Type 0 where
  pub gate : ℕ
  pub behind : List ℕ
  pub whole : file ≡ written setup batches ++ gate ∷ behind
  pub shut : gate ≢ 1

-- a file that contains these batches, or these and one more
abbrev pub IsBeforeOrAfter : Setup → List (List Entry) → List Entry → List ℕ → Type 0
IsBeforeOrAfter setup batches more file = IsLog setup file batches ⊎ IsLog setup file (batches ++ more ∷ [])

-- what a crash may leave of a file while its heading is being written: a closed gate, followed by at most as many bytes
-- as a heading and a gate have; or a gate that is not open, followed by the whole heading and a closed gate
abbrev pub IsBegun : Setup → ℕ → List ℕ → Type 0
IsBegun setup gate behind = ((gate ≡ 0) × (length behind ≤ 33)) ⊎ ((gate ≢ 1) × (behind ≡ heading setup ++ 0 ∷ []))

-- the same, or at most one byte
abbrev pub IsUnfinished : Setup → List ℕ → Type 0
IsUnfinished setup [] = Unit {0}
IsUnfinished setup (gate ∷ []) = Unit {0}
IsUnfinished setup (gate ∷ next ∷ rest) = IsBegun setup gate (next ∷ rest)

-- a closed gate, followed by at most as many bytes as a heading and a gate have
pub record IsShut (file : List ℕ) : Type 0 where
  pub rest : List ℕ
  pub whole : file ≡ 0 ∷ rest
  pub short : length rest ≤ 33

-- a file that contains these batches; if there are none, its heading may be incomplete
abbrev pub IsFileOf : Setup → List (List Entry) → List ℕ → Type 0
IsFileOf setup batches file = IsLog setup file batches ⊎ ((batches ≡ []) × IsUnfinished setup file)

-- a file that begins like the log of a server with this setup, or that has no log yet
abbrev pub IsOurs : Setup → List ℕ → Type 0
IsOurs setup file = ((rest : List ℕ) × (file ≡ beginning setup ++ rest)) ⊎ IsUnfinished setup file
