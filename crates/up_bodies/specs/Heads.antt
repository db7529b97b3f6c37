-- The head of a file of bodies.
use Rattle.std.specs.Prelude.{◌≡◌, ◌≢◌, ℕ, ◌<◌, ◌≤◌, ◌∷◌, ◌++◌, [], List, take, drop, false}
use Rattle.std.specs.Int.{w64, from_le_bytes, to_le_bytes}
use Rattle.sqlite_wal.specs.Format.{checksum}
use Rattle.up_bodies.specs.Blocks.{sum_text}
use Rattle.up_bodies.specs.declared.fault.OpenFault.{OpenFault}
use Rattle.up_bodies.specs.declared.fault.OpenFault.TheVariants.{Foreign, Version, Damaged, OtherStore, OtherNumber, Later, Broken, Disk, NoMemory}
use Rattle.up_bodies.specs.declared.head.Head.{Head}

-- "up body" and the end of a line
abbrev pub magic : List ℕ
magic = 117 ∷ 112 ∷ 32 ∷ 98 ∷ 111 ∷ 100 ∷ 121 ∷ 10 ∷ []

-- the type of the file, the version of its format, which file of the store it is, and the store: 48 bytes
unfoldable pub front : Head → List ℕ
front head = magic ++ (to_le_bytes w64 2 ++ (to_le_bytes w64 head.generation ++ (to_le_bytes w64 head.number ++ head.store)))

-- what the checksums of the file begin with
abbrev pub seed_of : Head → ℕ × ℕ
seed_of head = checksum false (0, 0) (front head)

-- the head, with its checksum: 56 bytes
abbrev pub head_text : Head → List ℕ
head_text head = front head ++ sum_text (seed_of head)

-- the head of this file of this store, made in this generation of the log or before it
pub record IsHeadOf (head : Head) (text : List ℕ) (seed : ℕ × ℕ) : Type 0 where
  pub generation : ℕ
  pub earlier : generation ≤ head.generation
  pub text_is : text ≡ head_text (record head { generation = generation })
  pub seed_is : seed ≡ seed_of (record head { generation = generation })

-- the bytes are the head of no such file
abbrev pub IsOther : Head → List ℕ → Type 0
IsOther head text = (seed : ℕ × ℕ) → IsHeadOf head text seed → ⊥

-- the number that begins at this byte
abbrev pub number_at : ℕ → List ℕ → ℕ
number_at i text = from_le_bytes w64 (drop i text)

-- no part of the bytes names another file, but they are the head of no such file
pub record IsDamagedHead (head : Head) (text : List ℕ) : Type 0 where
  pub other : IsOther head text
  pub type_is : take 8 text ≡ magic
  pub version_is : number_at 8 text ≡ 2
  pub store_is : take 16 (drop 32 text) ≡ head.store
  pub number_is : number_at 24 text ≡ head.number
  pub earlier : number_at 16 text ≤ head.generation

-- why a file with these first bytes is refused, once they were read
abbrev pub IsCause : Head → List ℕ → OpenFault → Type 0
IsCause head text Foreign = take 8 text ≢ magic
IsCause head text (Version version) = (version ≡ number_at 8 text) × (version ≢ 2)
IsCause head text Damaged = IsDamagedHead head text
IsCause head text OtherStore = take 16 (drop 32 text) ≢ head.store
IsCause head text (OtherNumber number) = (number ≡ number_at 24 text) × (number ≢ head.number)
IsCause head text (Later file log) = (file ≡ number_at 16 text) × (log ≡ head.generation) × (log < file)
IsCause head text Broken = ⊥
IsCause head text (Disk error) = ⊥
IsCause head text NoMemory = Unit {0}
