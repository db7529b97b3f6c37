use Rattle.std.specs.Prelude.{length, slice_index_or}
use Rattle.up_queue.specs.EndViews.{no_queue}
use Rattle.up_tests.proofs.stores.at_once.run_on.Given as goal

abbrev pub ghosts-run_by-B-Ledger : goal.ghosts-run_by-B-Ledger
ghosts-run_by-B-Ledger g a = record { name = a.parts.name; parts = a.parts.parts }

abbrev pub ghosts-run_by-B-Naming : goal.ghosts-run_by-B-Naming
ghosts-run_by-B-Naming g a = record {
  queue = λ lane. slice_index_or a.parts.queues lane no_queue;
  lanes = length a.parts.queues;
  max_size = 1000;
}

abbrev pub ghosts-run_by-B-Chronicle : goal.ghosts-run_by-B-Chronicle
ghosts-run_by-B-Chronicle g a = record { history = a.histories.written }

abbrev pub ghosts-run_by-J-Chronicle : goal.ghosts-run_by-J-Chronicle
ghosts-run_by-J-Chronicle g a = record { history = a.histories.written }

abbrev pub ghosts-run_by-K-Chronicle : goal.ghosts-run_by-K-Chronicle
ghosts-run_by-K-Chronicle g a = record { history = a.histories.drawn }
