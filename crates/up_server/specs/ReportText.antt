-- The report of a run, as text.
use Rattle.std.specs.Prelude.{ℕ, ◌+◌, List, [], ◌∷◌, ◌++◌, length, flat_map, codes, decimal, Option, Some, None}
use Rattle.std.specs.List.{concat}
use Rattle.up_events.specs.IdText.{text_of}
use Rattle.up_events.specs.Names.{name_of}
use Rattle.up_events.specs.declared.event.Event.{Event}
use Rattle.up_hooks.specs.Recorded.{recorded_by}
use Rattle.up_hooks.specs.declared.post_hook.Outcome.{Outcome}
use Rattle.up_hooks.specs.declared.post_hook.Outcome.TheVariants.{Done, Failed}
use Rattle.up_hooks.specs.declared.recorder.Recorder.{Recorder}
use Rattle.up_dispatch.specs.declared.report.Report.{Report}
use Rattle.up_lanes.specs.declared.lane_end.How.{How}
use Rattle.up_lanes.specs.declared.lane_end.How.TheVariants.{Drained, Stopped}
use Rattle.up_dispatch.specs.declared.report.LaneReport.{LaneReport}

-- what a post-hook answered
abbrev pub outcome_of : Outcome → List ℕ
outcome_of Done = codes " done\n"
outcome_of (Failed code) = concat (codes " failed " ∷ decimal code ∷ codes "\n" ∷ [])

-- a length, or a dash if it is not known
abbrev pub length_text : Option ℕ → List ℕ
length_text None = codes "-"
length_text (Some length) = decimal length

-- an event: its id, number, hook, offset and length
abbrev pub event_text : Event → List ℕ
event_text e =
    concat (text_of e.id ∷ codes " " ∷ decimal e.number ∷ codes " " ∷ name_of e.hook ∷ codes " " ∷ decimal e.offset ∷ codes "/" ∷ length_text e.length ∷ [])

-- the line of an event: the event, and what its post-hook answered
abbrev pub event_line : Event × Outcome → List ℕ
event_line told = event_text told.0 ++ outcome_of told.1

-- how a lane ended
abbrev pub how_of : How → List ℕ
how_of Drained = codes " drained "
how_of Stopped = codes " stopped "

-- the line of a lane: its number, how it ended, and how many events it handed over
abbrev pub lane_line : ℕ → How → ℕ → List ℕ
lane_line number how count = concat (codes "lane " ∷ decimal number ∷ how_of how ∷ decimal count ∷ codes "\n" ∷ [])

-- the events that a recorder keeps
abbrev pub events_text : {F : Type 0} → Recorder F → List ℕ
events_text hook = flat_map event_line (recorded_by hook)

-- how many events a recorder keeps
abbrev pub count_kept : {F : Type 0} → Recorder F → ℕ
count_kept hook = length (recorded_by hook)

-- the line of a lane, and the text about its post-hook
abbrev pub lane_text : {H : Type 0} → (H → ℕ) → (H → List ℕ) → ℕ → LaneReport H → List ℕ
lane_text count text number lane = lane_line number lane.how (count lane.hook) ++ text lane.hook

-- the lanes, numbered from this number on
abbrev pub lanes_text : {H : Type 0} → (H → ℕ) → (H → List ℕ) → ℕ → List (LaneReport H) → List ℕ
lanes_text count text number [] = []
lanes_text count text number (lane ∷ lanes) = lane_text count text number lane ++ lanes_text count text (number + 1) lanes

-- an empty line, and the number of accepted changes
abbrev pub count_line : ℕ → List ℕ
count_line count = concat (codes "\naccepted " ∷ decimal count ∷ codes "\n" ∷ [])

-- the number of accepted changes, and the lanes, each with the text about its post-hook
abbrev pub report_by : {H : Type 0} → (H → ℕ) → (H → List ℕ) → Report H → List ℕ
report_by count text report = count_line (length report.accepted.items) ++ lanes_text count text 0 report.lanes.items

-- the report of a run that kept its events
abbrev pub report_text : {F : Type 0} → Report (Recorder F) → List ℕ
report_text report = report_by count_kept events_text report
