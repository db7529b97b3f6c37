-- The book that the entries of a log define.
use Rattle.std.specs.Prelude.{◌≡◌, ℕ, List, [], ◌∷◌, ◌++◌, Result, Ok, Err}
use Rattle.std.specs.List.{flat_map}
use Rattle.up_events.specs.Delivery.{IsPrefix}
use Rattle.up_events.specs.Records.{lane_log}
use Rattle.up_log.specs.declared.entry.Entry.{Entry}
use Rattle.up_log.specs.declared.entry.Consent.{Consent}
use Rattle.up_log.specs.declared.entry.Consent.TheVariants as consent
use Rattle.up_machine.specs.Decision.{decide}
use Rattle.up_machine.specs.State.{State, after}
use Rattle.up_machine.specs.declared.plan.Asked.{Asked}
use Rattle.up_machine.specs.declared.plan.Asked.TheVariants.{Skipped, Allowed, AllowedFinish}
use Rattle.up_machine.specs.declared.plan.Done.{Done}
use Rattle.up_machine.specs.declared.refusal.Refusal.{Refusal}

-- what the closures said
abbrev pub asked_of : Consent → Asked
asked_of consent.Skipped = Skipped
asked_of consent.Allowed = Allowed
asked_of consent.AllowedFinish = AllowedFinish

-- the book after a decision
abbrev pub carried : State → Entry → Result Done Refusal → State
carried s entry (Ok done) = after s entry.request entry.id done.change
carried s entry (Err refused) = s

-- the book after an entry
abbrev pub replayed_one : State → Entry → State
replayed_one s entry = carried s entry (decide s entry.request entry.id (asked_of entry.consent))

-- the book after these entries, in order
unfoldable pub replayed : State → List Entry → State
replayed s [] = s
replayed s (entry ∷ entries) = replayed (replayed_one s entry) entries

-- the entries of these batches
abbrev pub entries_of : List (List Entry) → List Entry
entries_of batches = flat_map (λ (batch : List Entry). batch) batches

-- committing more entries continues from the book that the first of them define
abbrev pub ReplaysGoOn : Type 0
ReplaysGoOn = (s : State) (first more : List Entry) → replayed s (first ++ more) ≡ replayed (replayed s first) more

-- the changes that a prefix of a log defines are a prefix of those that the log defines
abbrev pub ChangesBeginAlike : Type 0
ChangesBeginAlike = (s : State) (first more : List Entry) → IsPrefix (replayed s first).journal.accepted (replayed s (first ++ more)).journal.accepted

-- and the same for the log of each lane
abbrev pub LogsBeginAlike : Type 0
LogsBeginAlike = (s : State) (first more : List Entry) (lane : ℕ) → IsPrefix (lane_log (replayed s first).journal lane) (lane_log (replayed s (first ++ more)).journal lane)
