use Rattle.std.specs.Prelude.{length, slice_index_or}
use Rattle.up_queue.specs.EndViews.{no_queue}
use Rattle.up_test_data.proofs.calls.boards.call_all.Given as goal

abbrev pub ghosts-begin-B-Ledger : goal.ghosts-begin-B-Ledger
ghosts-begin-B-Ledger g a = record { name = a.parts.name; parts = a.parts.parts }

abbrev pub ghosts-begin-B-Naming : goal.ghosts-begin-B-Naming
ghosts-begin-B-Naming g a = record {
  queue = λ lane. slice_index_or a.parts.queues lane no_queue;
  lanes = length a.parts.queues;
  max_size = 1024;
}
