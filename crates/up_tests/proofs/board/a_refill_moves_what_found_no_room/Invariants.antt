use Rattle.std.specs.Prelude.{length, slice_index_or}
use Rattle.up_queue.specs.EndViews.{no_queue}
use Rattle.up_tests.proofs.board.a_refill_moves_what_found_no_room.Given as goal

abbrev pub ghosts-stepped-B-Ledger : goal.ghosts-stepped-B-Ledger
ghosts-stepped-B-Ledger g a = record { name = a.parts.name; parts = a.parts.parts }

abbrev pub ghosts-stepped-B-Naming : goal.ghosts-stepped-B-Naming
ghosts-stepped-B-Naming g a = record {
  queue = λ lane. slice_index_or a.parts.queues lane no_queue;
  lanes = length a.parts.queues;
  max_size = 1048576;
}
