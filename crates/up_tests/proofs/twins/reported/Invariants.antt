use Rattle.std.specs.Prelude.{length, slice_index_or}
use Rattle.up_queue.specs.EndViews.{no_queue}
use Rattle.up_tests.proofs.twins.reported.Given as goal

abbrev pub ghosts-on_board-B-Ledger : goal.ghosts-on_board-B-Ledger
ghosts-on_board-B-Ledger g a = record { name = a.parts.name; parts = a.parts.parts }

abbrev pub ghosts-on_board-B-Naming : goal.ghosts-on_board-B-Naming
ghosts-on_board-B-Naming g a = record {
  queue = λ lane. slice_index_or a.parts.queues lane no_queue;
  lanes = length a.parts.queues;
  max_size = 1048576;
}
