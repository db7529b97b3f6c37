-- A run of the server over one input, from its first message to the report.
use Rattle.std.specs.Prelude.{◌≡◌, ◌⊎◌, ℕ, true, false, List, length, Result, Ok, Err}
use Rattle.up_dispatch.specs.Keeps.{ClosureAnswers}
use Rattle.up_dispatch.specs.declared.ended.Ended.{Ended}
use Rattle.up_dispatch.specs.declared.ended.Ended.TheVariants.{Closed, Cut, ReadFailed, WriteFailed}
use Rattle.up_events.specs.declared.event.Event.{Event}
use Rattle.up_hooks.specs.declared.recorder.Recorder.{Recorder}
use Rattle.up_queue.specs.EndViews.{QueueId}
use Rattle.up_server.specs.Reported.{IsBrokenOff, IsReportOf, IsWritten, any_stopped}
use Rattle.up_server.specs.ReportText.{report_text}
use Rattle.up_server.specs.Seats.{IsServedFrom}
use Rattle.up_server.specs.declared.served.Served.{Served}
use Rattle.up_server.specs.declared.server_fault.ServerFault.{ServerFault}
use Rattle.up_server.specs.declared.server_fault.ServerFault.TheVariants as Fault
use Rattle.up_wire.specs.Device.{Device}
use Rattle.up_words.specs.declared.settings.Settings.{Settings}

-- One conversation was served from the only seat of a new board with these settings and queues, whose closures may
-- answer this. The report is that of the board, and counts as many changes as were made from the seat.
pub record IsServedRun {H : Type 0} (handed : H → List Event) (queue : ℕ → QueueId) (gives : ClosureAnswers) (settings : Settings) (served : Served H) (source source_after sink sink_after : Device) : Type 0 where
  pub converses : IsServedFrom queue settings.lanes gives settings.max_size 0 (length served.report.accepted.items) source source_after sink sink_after served.ended
  pub report : IsReportOf handed settings.lanes served.report

-- the input was served to its end, or to where it broke off
abbrev pub HasEndedWell : Ended → Type 0
HasEndedWell ended = (ended ≡ Closed) ⊎ (ended ≡ Cut)

-- the report was written after the replies, and what went wrong; there is no report if the replies could not be written
abbrev pub IsReported : {F : Type 0} → Served (Recorder F) → Device → Device → {X : Type 0} → Result X ServerFault → Type 0
IsReported served before after (Ok done) =
    HasEndedWell served.ended × IsWritten (report_text served.report) before after × (any_stopped served.report.lanes.items ≡ false)
IsReported served before after (Err Fault.Memory) = ⊥
IsReported served before after (Err Fault.Listen) = ⊥
IsReported served before after (Err Fault.Write) = ((served.ended ≡ WriteFailed) × (after ≡ before)) ⊎ IsBrokenOff (report_text served.report) before after
IsReported served before after (Err Fault.Read) = (served.ended ≡ ReadFailed) × IsWritten (report_text served.report) before after
IsReported served before after (Err Fault.Stopped) =
    HasEndedWell served.ended × IsWritten (report_text served.report) before after × (any_stopped served.report.lanes.items ≡ true)
