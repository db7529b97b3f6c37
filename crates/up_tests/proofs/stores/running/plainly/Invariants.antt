use Rattle.std.specs.Prelude.{length, slice_index_or}
use Rattle.up_queue.specs.EndViews.{no_queue}
use Rattle.up_tests.proofs.stores.running.plainly.Given as goal

abbrev pub ghosts-plain_of-B-Ledger : goal.ghosts-plain_of-B-Ledger
ghosts-plain_of-B-Ledger g a = record { name = a.parts.name; parts = a.parts.parts }

abbrev pub ghosts-plain_of-B-Naming : goal.ghosts-plain_of-B-Naming
ghosts-plain_of-B-Naming g a = record {
  queue = λ lane. slice_index_or a.parts.queues lane no_queue;
  lanes = length a.parts.queues;
  max_size = 1000;
}
