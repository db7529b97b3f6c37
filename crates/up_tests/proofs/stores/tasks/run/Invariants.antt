use Rattle.std.specs.Prelude.{length, slice_index_or}
use Rattle.up_queue.specs.EndViews.{no_queue}
use Rattle.up_tests.proofs.stores.tasks.run.Given as goal

abbrev pub ghosts-run_named-B-Ledger : goal.ghosts-run_named-B-Ledger
ghosts-run_named-B-Ledger g a = record { name = a.parts.name; parts = a.parts.parts }

abbrev pub ghosts-run_named-B-Naming : goal.ghosts-run_named-B-Naming
ghosts-run_named-B-Naming g a = record {
  queue = λ lane. slice_index_or a.parts.queues lane no_queue;
  lanes = length a.parts.queues;
  max_size = 1000;
}

abbrev pub ghosts-run_named-B-Chronicle : goal.ghosts-run_named-B-Chronicle
ghosts-run_named-B-Chronicle g a = record { history = a.histories.written }

abbrev pub ghosts-run_named-J-Chronicle : goal.ghosts-run_named-J-Chronicle
ghosts-run_named-J-Chronicle g a = record { history = a.histories.written }

abbrev pub ghosts-run_named-K-Chronicle : goal.ghosts-run_named-K-Chronicle
ghosts-run_named-K-Chronicle g a = record { history = a.histories.drawn }
