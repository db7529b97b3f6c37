-- Places of data files.
use Rattle.std.specs.Prelude.{◌≡◌, ℕ, ◌*◌, List, length, replicate, take, drop, refl}
use Rattle.std.specs.Coded.{Coded, code_by, coded×, coded_ℕ, coded_list}

-- bytes in a file, and where they are
pub record Spot : Type 0 where
  pub file : ℕ
  pub at : ℕ
  pub bytes : List ℕ

-- the code with which a proof compares places
abbrev pub spot_code : Coded Spot
spot_code =
    code_by (ℕ × (ℕ × List ℕ)) (coded× coded_ℕ (coded× coded_ℕ (coded_list coded_ℕ)))
    (λ s. (s.file, (s.at, s.bytes)))
    (λ p. record { file = p.0; at = p.1.0; bytes = p.1.1 })
    (λ _. refl)

-- the bytes that data files have: of a file, from a byte on, as many as are asked for
abbrev pub Content : Type 0
Content = ℕ → ℕ → ℕ → List ℕ

-- that of no data files
abbrev pub no_content : Content
no_content file at count = replicate count 0

-- the i-th 65,536 of the bytes
abbrev pub part_at : ℕ → List ℕ → List ℕ
part_at i bytes = take 65_536 (drop (65_536 * i) bytes)

-- a buffer begins with these bytes
abbrev pub BeginsWith : List ℕ → List ℕ → Type 0
BeginsWith bytes buffer = take (length bytes) buffer ≡ bytes
