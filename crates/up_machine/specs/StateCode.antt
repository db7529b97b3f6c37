-- The code with which a proof compares states.
use Rattle.std.specs.Prelude.{ℕ, Bool, refl}
use Rattle.std.specs.Coded.{Coded, code_by, coded×, coded_ℕ, coded_bool}
use Rattle.std.specs.FinMap as map
use Rattle.up_events.specs.contracts.journal.Journal as journal
use Rattle.up_events.specs.Records.{Records}
use Rattle.up_machine.specs.Content.{content_code}
use Rattle.up_machine.specs.State.{Contents, State}

abbrev pub state_code : Coded State
state_code =
    code_by (Contents × (Records × (Bool × ℕ))) (coded× (map.code coded_ℕ content_code) (coded× journal.the_row.coded (coded× coded_bool coded_ℕ)))
    (λ s. (s.content, (s.journal, (s.closed, s.max_size))))
    (λ p. record { content = p.0; journal = p.1.0; closed = p.1.1.0; max_size = p.1.1.1 })
    (λ _. refl)
