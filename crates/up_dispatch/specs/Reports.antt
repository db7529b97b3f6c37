-- What a lane handed over, compared with its log and with the events of its uploads.
use Rattle.std.specs.Prelude.{◌≡◌, ℕ, ◌+◌, ◌%◌, ◌<◌, ◌≤◌, List, length, Bool, true}
use Rattle.up_events.specs.Delivery.{IsPrefix, IsDelivered, handed_of}
use Rattle.up_events.specs.History.{events_of}
use Rattle.up_events.specs.declared.event.Accepted.{Accepted}
use Rattle.up_events.specs.declared.event.Event.{Event}
use Rattle.up_events.specs.Log.{log_of}
use Rattle.up_lanes.specs.HowOf.{is_drained}
use Rattle.up_dispatch.specs.Lists.{EachAt}
use Rattle.up_dispatch.specs.declared.report.FinishFault.{FinishFault}
use Rattle.up_dispatch.specs.declared.report.FinishFault.TheVariants.{SeatsOut, LanesOut, NoMemory}
use Rattle.up_dispatch.specs.declared.report.LaneReport.{LaneReport}

-- a prefix of the log was handed over, all of it if the lane is drained, and this many events are left
pub record IsHandedOver (log handed : List Event) (drained : Bool) (left : ℕ) : Type 0 where
  pub begins : IsPrefix handed log
  pub all : drained ≡ true → handed ≡ log
  pub rest : length handed + left ≡ length log

-- of each upload its first events were handed over, each once and in order; if the lane is drained, all events of each
-- upload of the lane
pub record TellsUploads (lanes : ℕ) (accepted : List Accepted) (lane : ℕ) (handed : List Event) (drained : Bool) : Type 0 where
  pub delivered : IsDelivered accepted handed
  pub all : drained ≡ true → (u : ℕ) → u % lanes ≡ lane → handed_of handed u ≡ events_of accepted u

-- each lane once, in ascending order
abbrev pub AreLanesInOrder : {X : Type 0} → (X → ℕ) → ℕ → List X → Type 0
AreLanesInOrder lane count xs = (length xs ≡ count) × EachAt (λ k x. lane x ≡ k) xs

-- each lane handed over a prefix of its log of the accepted changes, all of it if it is drained
abbrev pub HandOver : {H : Type 0} → (H → List Event) → ℕ → List Accepted → List (LaneReport H) → Type 0
HandOver handed lanes accepted reports =
    EachAt (λ k r. IsHandedOver (log_of lanes accepted k) (handed r.hook) (is_drained r.how) r.left) reports

-- each lane handed over the first events of each upload, and all events of its own uploads if it is drained
abbrev pub TellEachUpload : {H : Type 0} → (H → List Event) → ℕ → List Accepted → List (LaneReport H) → Type 0
TellEachUpload handed lanes accepted reports =
    EachAt (λ k r. TellsUploads lanes accepted k (handed r.hook) (is_drained r.how)) reports

-- why a board with this many changes is not finished: the seats that came back made fewer; or they made all, and the
-- lanes are not all there, each once and in order; or nothing is missing, and memory ran out
abbrev pub IsRefusedFor : FinishFault → ℕ → ℕ → Type 0 → Type 0
IsRefusedFor SeatsOut changes made LanesAreThere = made < changes
IsRefusedFor LanesOut changes made LanesAreThere = (changes ≤ made) × ¬ LanesAreThere
IsRefusedFor NoMemory changes made LanesAreThere = (changes ≤ made) × LanesAreThere
