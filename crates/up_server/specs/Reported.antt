-- The report of a board that has ended, and its text.
use Rattle.std.specs.Prelude.{◌≡◌, ℕ, Bool, true, false, List, length, All, Result, Ok, Err}
use Rattle.std.specs.Io.KnownBytes.{Appends}
use Rattle.std.specs.List.{list_any}
use Rattle.up_dispatch.specs.Reports.{HandOver, TellEachUpload}
use Rattle.up_dispatch.specs.declared.report.LaneReport.{LaneReport}
use Rattle.up_dispatch.specs.declared.report.Report.{Report}
use Rattle.up_events.specs.History.{IsLegal}
use Rattle.up_events.specs.declared.event.Event.{Event}
use Rattle.up_hooks.specs.declared.recorder.Recorder.{Recorder}
use Rattle.up_lanes.specs.HowOf.{is_drained}
use Rattle.up_lanes.specs.declared.lane_end.How.{How}
use Rattle.up_lanes.specs.declared.lane_end.How.TheVariants.{Drained, Stopped}
use Rattle.up_server.specs.ReportText.{report_text}
use Rattle.up_server.specs.declared.server_fault.ServerFault.{ServerFault}
use Rattle.up_server.specs.declared.server_fault.ServerFault.TheVariants as Fault
use Rattle.up_wire.specs.Device.{Device, GaveUp}
use Rattle.up_wire.specs.Response.{WritesFront}

-- The report of a board with this many lanes: the changes are a legal history. Each lane handed over a prefix of its
-- log of them: of each upload its first events, each once and in order, and all of them if the lane is drained.
pub record IsReportOf {H : Type 0} (handed : H → List Event) (lanes : ℕ) (report : Report H) : Type 0 where
  pub legal : IsLegal report.accepted.items
  pub lanes_are : length report.lanes.items ≡ lanes
  pub handed_over : HandOver handed lanes report.accepted.items report.lanes.items
  pub delivered : TellEachUpload handed lanes report.accepted.items report.lanes.items

-- the post-hook of each lane that is drained has settled all events that it was handed. If it delivers them to somebody
-- who acknowledges each, all were acknowledged
abbrev pub AreSettled : {H : Type 0} → (H → Bool) → List (LaneReport H) → Type 0
AreSettled is_settled lanes = All (λ lane. is_drained lane.how ≡ true → is_settled lane.hook ≡ true) lanes

-- whether a lane stopped before it took its end
abbrev pub is_stopped : How → Bool
is_stopped Drained = false
is_stopped Stopped = true

-- whether any lane stopped
abbrev pub any_stopped : {H : Type 0} → List (LaneReport H) → Bool
any_stopped lanes = list_any (λ lane. is_stopped lane.how) lanes

-- the text was written, and sent on
abbrev pub IsWritten : List ℕ → Device → Device → Type 0
IsWritten text before after = Appends before.bytes after.bytes text

-- a prefix of the text was written, and then the sink failed or was interrupted too often
abbrev pub IsBrokenOff : List ℕ → Device → Device → Type 0
IsBrokenOff text before after = WritesFront before.bytes after.bytes text × GaveUp after after.interruptions

-- the report was written as this text, and what went wrong: a write failed, or a lane stopped
abbrev pub IsOutcomeOfText : List ℕ → Bool → Device → Device → {X : Type 0} → Result X ServerFault → Type 0
IsOutcomeOfText text stopped before after (Ok done) = IsWritten text before after × (stopped ≡ false)
IsOutcomeOfText text stopped before after (Err Fault.Memory) = ⊥
IsOutcomeOfText text stopped before after (Err Fault.Listen) = ⊥
IsOutcomeOfText text stopped before after (Err Fault.Write) = IsBrokenOff text before after
IsOutcomeOfText text stopped before after (Err Fault.Read) = ⊥
IsOutcomeOfText text stopped before after (Err Fault.Stopped) = IsWritten text before after × (stopped ≡ true)

-- the report with its events was written, and what went wrong
abbrev pub IsRunOutcome : {F : Type 0} → Report (Recorder F) → Device → Device → {X : Type 0} → Result X ServerFault → Type 0
IsRunOutcome report before after result = IsOutcomeOfText (report_text report) (any_stopped report.lanes.items) before after result
