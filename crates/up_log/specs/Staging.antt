-- What stands in a file while a block is being written to it.
use Rattle.std.specs.Prelude.{◌≡◌, ℕ, ◌+◌, ◌<◌, List, ◌∷◌, [], ◌++◌, length, OnOk, Result}
use Rattle.sqlite_disk.specs.Disk.{Follows, Holds, Torn}
use Rattle.sqlite_disk.specs.declared.Disk.{Ghosts}
use Rattle.up_log.specs.declared.entry.Entry.{Entry}
use Rattle.up_log.specs.declared.fault.LogFault.{LogFault}
use Rattle.up_log.specs.Blocks.{body}
use Rattle.up_log.specs.Spelling.{word, batch}

-- what is written after the gate of a block: its body, and the next gate, closed
abbrev pub closed_body : List Entry → List ℕ
closed_body entries = body entries ++ 0 ∷ []

-- how a body begins: the number of bytes of the batch, and the number of entries
abbrev pub body_front : List Entry → List ℕ
body_front entries = word (length (batch entries)) ++ word (length entries)

-- only the `size` bytes from `start` on were changed, also in what a crash may leave; reading stays as clean as it was
pub record IsTouched {D : Type 0} (g : Ghosts D) (start size : ℕ) (old new : D) : Type 0 where
  pub others : Torn start size (g.seen old) (g.seen new)
  pub crash : Follows (Torn start size) (g.may_leave old) (g.may_leave new)
  pub calm : g.is_clean new ≡ g.is_clean old

-- of the bytes in `done`, which belong at `start`, those in `room` are still to be written at the place `at`; the others
-- are in the file
pub record IsStagedTo {D : Type 0} (g : Ghosts D) (start size : ℕ) (done : List ℕ) (old new : D) (at : ℕ) (room : List ℕ) : Type 0 where
  pub bytes : List ℕ
  pub place : at ≡ start + length bytes
  pub parts : bytes ++ room ≡ done
  pub held : 0 < length bytes → Holds (g.seen new) start bytes
  pub touched : IsTouched g start size old new

-- only a body and the next gate were changed; after `Ok` they are there
abbrev pub WritesBody : {D : Type 0} → Ghosts D → ℕ → List Entry → D → D → Result (Unit {0}) LogFault → Type 0
WritesBody g gate entries old new result =
    IsTouched g (gate + 1) (length (closed_body entries)) old new × OnOk result (Holds (g.seen new) (gate + 1) (closed_body entries))
