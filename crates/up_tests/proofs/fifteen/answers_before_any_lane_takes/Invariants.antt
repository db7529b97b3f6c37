use Rattle.std.specs.Prelude.{length, slice_index_or}
use Rattle.up_queue.specs.EndViews.{no_queue}
use Rattle.up_tests.proofs.fifteen.answers_before_any_lane_takes.Given as goal

abbrev pub ghosts-crowded-B-Ledger : goal.ghosts-crowded-B-Ledger
ghosts-crowded-B-Ledger g a = record { name = a.parts.name; parts = a.parts.parts }

abbrev pub ghosts-crowded-B-Naming : goal.ghosts-crowded-B-Naming
ghosts-crowded-B-Naming g a = record {
  queue = λ lane. slice_index_or a.parts.queues lane no_queue;
  lanes = length a.parts.queues;
  max_size = 1048576;
}
