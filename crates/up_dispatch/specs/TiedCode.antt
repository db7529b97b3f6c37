-- The code by which a proof tells the values under the board's lock apart.
use Rattle.std.specs.Prelude.{Bool, List, refl}
use Rattle.std.specs.Coded.{Coded, code_by, coded×, coded_bool, coded_list}
use Rattle.up_commits.specs.Follows.{Following}
use Rattle.up_log.specs.contracts.entry.Entry as entry
use Rattle.up_log.specs.declared.entry.Entry.{Entry}
use Rattle.up_dispatch.specs.BoardView.{BoardView}
use Rattle.up_dispatch.specs.BoardViewCode.{board_view_code}
use Rattle.up_dispatch.specs.Tied.{Tied}

abbrev following_code : Coded Following
following_code =
    code_by (List Entry × List Bool) (coded× (coded_list entry.the_row.coded) (coded_list coded_bool))
    (λ f. (f.entries, f.carried))
    (λ p. record { entries = p.0; carried = p.1 })
    (λ _. refl)

abbrev pub tied_code : Coded Tied
tied_code =
    code_by (BoardView × (Following × Bool)) (coded× board_view_code (coded× following_code coded_bool))
    (λ t. (t.board, (t.follows, t.is_tied)))
    (λ p. record { board = p.0; follows = p.1.0; is_tied = p.1.1 })
    (λ _. refl)
