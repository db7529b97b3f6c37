use Rattle.std.specs.Prelude.{length, slice_index_or}
use Rattle.up_queue.specs.EndViews.{no_queue}
use Rattle.up_tests.proofs.unfinished.a_board_that_came_back_wakes_its_lanes.Given as goal

abbrev pub ghosts-came_back-B-Ledger : goal.ghosts-came_back-B-Ledger
ghosts-came_back-B-Ledger g a = record { name = a.parts.name; parts = a.parts.parts }

abbrev pub ghosts-came_back-B-Naming : goal.ghosts-came_back-B-Naming
ghosts-came_back-B-Naming g a = record {
  queue = λ lane. slice_index_or a.parts.queues lane no_queue;
  lanes = length a.parts.queues;
  max_size = 1048576;
}
