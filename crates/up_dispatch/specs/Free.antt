-- Which boards may be changed without a log.
use Rattle.std.specs.Prelude.{◌≡◌, ◌⊎◌, true}
use Rattle.logbook.specs.Pages.{Book}
use Rattle.up_machine.specs.Decision.{is_refusal}
use Rattle.up_machine.specs.declared.plan.Asked.{Asked}

-- what stands for a history where a board follows none. No history that was opened is known to be it
abbrev pub no_history : Book
no_history = record { number = 0; log_name = 0; cells_name = 0 }

-- the board follows no history; or a closure refuses, so that no change is made
abbrev pub MayCommit : Book → Asked → Type 0
MayCommit history asked = (history ≡ no_history) ⊎ (is_refusal asked ≡ true)
