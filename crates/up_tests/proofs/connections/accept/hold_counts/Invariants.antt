use Rattle.std.specs.Prelude.{length, slice_index_or}
use Rattle.up_queue.specs.EndViews.{no_queue}
use Rattle.up_tests.proofs.connections.accept.hold_counts.Given as goal

abbrev pub ghosts-counts-B-Ledger : goal.ghosts-counts-B-Ledger
ghosts-counts-B-Ledger g a = record { name = a.parts.name; parts = a.parts.parts }

abbrev pub ghosts-counts-B-Naming : goal.ghosts-counts-B-Naming
ghosts-counts-B-Naming g a = record {
  queue = λ lane. slice_index_or a.parts.queues lane no_queue;
  lanes = length a.parts.queues;
  max_size = 1024;
}
