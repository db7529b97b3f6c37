use Rattle.std.specs.Prelude.{length, slice_index_or}
use Rattle.up_queue.specs.EndViews.{no_queue}
use Rattle.up_tests.proofs.stores.refusing.what_a_closure_refuses_is_not_written.Given as goal

abbrev pub ghosts-refused_plainly-B-Ledger : goal.ghosts-refused_plainly-B-Ledger
ghosts-refused_plainly-B-Ledger g a = record { name = a.parts.name; parts = a.parts.parts }

abbrev pub ghosts-refused_plainly-B-Naming : goal.ghosts-refused_plainly-B-Naming
ghosts-refused_plainly-B-Naming g a = record {
  queue = λ lane. slice_index_or a.parts.queues lane no_queue;
  lanes = length a.parts.queues;
  max_size = 1000;
}
