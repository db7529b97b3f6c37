use Rattle.std.specs.Prelude.{length, slice_index_or}
use Rattle.up_queue.specs.EndViews.{no_queue}
use Rattle.up_tests.proofs.connections.seats.takes_the_seat_that_came_back.Given as goal

abbrev pub ghosts-taken_again-B-Ledger : goal.ghosts-taken_again-B-Ledger
ghosts-taken_again-B-Ledger g a = record { name = a.parts.name; parts = a.parts.parts }

abbrev pub ghosts-taken_again-B-Naming : goal.ghosts-taken_again-B-Naming
ghosts-taken_again-B-Naming g a = record {
  queue = λ lane. slice_index_or a.parts.queues lane no_queue;
  lanes = length a.parts.queues;
  max_size = 1;
}
