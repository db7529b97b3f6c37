use Rattle.std.specs.Prelude.{length, slice_index_or}
use Rattle.up_queue.specs.EndViews.{no_queue}
use Rattle.up_tests.proofs.gates.stopping.reported.Given as goal

abbrev pub ghosts-stopped-B-Ledger : goal.ghosts-stopped-B-Ledger
ghosts-stopped-B-Ledger g a = record { name = a.parts.name; parts = a.parts.parts }

abbrev pub ghosts-stopped-B-Naming : goal.ghosts-stopped-B-Naming
ghosts-stopped-B-Naming g a = record {
  queue = λ lane. slice_index_or a.parts.queues lane no_queue;
  lanes = length a.parts.queues;
  max_size = 1048576;
}
