use Rattle.std.specs.Prelude.{length, slice_index_or}
use Rattle.up_queue.specs.EndViews.{no_queue}
use Rattle.up_tests.proofs.together.hold.Given as goal

abbrev pub ghosts-changed_at_once-B-Ledger : goal.ghosts-changed_at_once-B-Ledger
ghosts-changed_at_once-B-Ledger g a = record { name = a.parts.name; parts = a.parts.parts }

abbrev pub ghosts-changed_at_once-B-Naming : goal.ghosts-changed_at_once-B-Naming
ghosts-changed_at_once-B-Naming g a = record {
  queue = λ lane. slice_index_or a.parts.queues lane no_queue;
  lanes = length a.parts.queues;
  max_size = 1048576;
}
