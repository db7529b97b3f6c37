use Rattle.std.specs.Prelude.{length, slice_index_or}
use Rattle.up_queue.specs.EndViews.{no_queue}
use Rattle.up_tests.proofs.unfinished.all_comes_back_where_a_seat_or_a_lane_is_missing.Given as goal

abbrev pub ghosts-each_missing-B-Ledger : goal.ghosts-each_missing-B-Ledger
ghosts-each_missing-B-Ledger g a = record { name = a.parts.name; parts = a.parts.parts }

abbrev pub ghosts-each_missing-B-Naming : goal.ghosts-each_missing-B-Naming
ghosts-each_missing-B-Naming g a = record {
  queue = λ lane. slice_index_or a.parts.queues lane no_queue;
  lanes = length a.parts.queues;
  max_size = 1048576;
}
