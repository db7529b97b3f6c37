-- The code by which a proof tells standings apart.
use Rattle.std.specs.Prelude.{ℕ, List, refl}
use Rattle.std.specs.Coded.{Coded, code_by, coded×, coded_ℕ, coded_list}
use Rattle.up_machine.specs.State.{State}
use Rattle.up_machine.specs.StateCode.{state_code}
use Rattle.up_queue.specs.EndViews.{PutEndView}
use Rattle.up_queue.specs.contracts.ends.PutEnd as put_end
use Rattle.up_dispatch.specs.BoardView.{BoardView}

abbrev pub board_view_code : Coded BoardView
board_view_code =
    code_by (State × (List PutEndView × (ℕ × ℕ))) (coded× state_code (coded× (coded_list put_end.the_row.coded) (coded× coded_ℕ coded_ℕ)))
    (λ s. (s.book, (s.ends, (s.given, s.total))))
    (λ p. record { book = p.0; ends = p.1.0; given = p.1.1.0; total = p.1.1.1 })
    (λ _. refl)
