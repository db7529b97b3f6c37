use Rattle.std.specs.Prelude.{length, slice_index_or}
use Rattle.up_queue.specs.EndViews.{no_queue}
use Rattle.up_tests.proofs.board.a_closed_board_answers_and_changes_nothing.Given as goal

abbrev pub ghosts-closed-B-Ledger : goal.ghosts-closed-B-Ledger
ghosts-closed-B-Ledger g a = record { name = a.parts.name; parts = a.parts.parts }

abbrev pub ghosts-closed-B-Naming : goal.ghosts-closed-B-Naming
ghosts-closed-B-Naming g a = record {
  queue = λ lane. slice_index_or a.parts.queues lane no_queue;
  lanes = length a.parts.queues;
  max_size = 3;
}
