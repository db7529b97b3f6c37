-- The content and the accepted changes describe the same uploads.
use Rattle.std.specs.Prelude.{◌≡◌, ◌≤◌, ℕ, List, Some, is_some, length}
use Rattle.std.specs.FinMap as map
use Rattle.up_events.specs.History.{is_alive, kind_of, length_of, offset_of, IsLegal}
use Rattle.up_events.specs.declared.event.Accepted.{Accepted}
use Rattle.up_events.specs.declared.limits.TheConstants.{MAX_UPLOAD_BYTES}
use Rattle.up_machine.specs.Content.{Content}
use Rattle.up_machine.specs.State.{Contents, State}

-- exactly the uploads that exist, with their kind and length, and with as many bytes as the offset says
pub record Fits (content : Contents) (accepted : List Accepted) : Type 0 where
  pub ids : (u : ℕ) → is_some (map.get content u) ≡ is_alive accepted u
  pub each : (u : ℕ) (x : Content) → map.get content u ≡ Some x → (kind_of accepted u ≡ Some x.kind) × (length_of accepted u ≡ x.length) × (length x.bytes ≡ offset_of accepted u)

-- the invariant of every book
pub record IsSoundBook (s : State) : Type 0 where
  pub legal : IsLegal s.journal.accepted
  pub fits : Fits s.content s.journal.accepted
  pub small : s.max_size ≤ MAX_UPLOAD_BYTES
