-- What is written of bytes that are read from a shelf.
use Rattle.std.specs.Prelude.{◌≡◌, ℕ, ◌||◌, Bool, List, length, Result}
use Rattle.up_message.specs.declared.response.Response.{Response}
use Rattle.up_places.specs.declared.shelf.Shelf.{Ghosts as ShelfGhosts}
use Rattle.up_wire.specs.Device.{Device}
use Rattle.up_wire.specs.declared.device.Sink.{Ghosts as SinkGhosts}
use Rattle.up_wire.specs.Response.{Writes, response_text}
use Rattle.up_wire.specs.Steps.{HasWritten}

-- a sink and a shelf as one device, which has failed if one of them has
abbrev pub beside : Device → Bool → Device
beside sink has_failed = record sink { has_failed = sink.has_failed || has_failed }

-- what is shown for these bytes: as many, and the same if T holds, that each read was true
pub record IsShownFor (T : Type 0) (bytes shown : List ℕ) : Type 0 where
  pub as_many : length shown ≡ length bytes
  pub same : T → shown ≡ bytes

-- what a call that shows these bytes did
pub record HasShown (T : Type 0) (before after : Device) (old new : ℕ) (bytes : List ℕ) (done : Bool) : Type 0 where
  pub shown : List ℕ
  pub is_shown : IsShownFor T bytes shown
  pub written : HasWritten before after old new shown done

-- a call with this sink and this shelf, each before and after it, shows these bytes
abbrev pub Shows : {W S : Type 0} → SinkGhosts W → ShelfGhosts S → W → W → S → S → ℕ → ℕ → List ℕ → Bool → Type 0
Shows w s sink sink' shelf shelf' old new bytes done =
    HasShown (s.is_true shelf') (beside (w.device sink) (s.has_failed shelf)) (beside (w.device sink') (s.has_failed shelf')) old new bytes done

-- what a call that writes a response did, with what is shown for its body
pub record HasShownResponse (T : Type 0) (before after : Device) (old new : ℕ) (r : Response) (bare close : Bool) (done : Bool) : Type 0 where
  pub body : List ℕ
  pub is_shown : IsShownFor T r.body body
  pub written : HasWritten before after old new (response_text (record r { body = body }) bare close) done

-- a response was written with what is shown for its body
pub record WritesShown {X E : Type 0} (T : Type 0) (before after : Device) (r : Response) (bare close : Bool) (result : Result X E) : Type 0 where
  pub body : List ℕ
  pub is_shown : IsShownFor T r.body body
  pub written : Writes before.bytes after.bytes (response_text (record r { body = body }) bare close) result
