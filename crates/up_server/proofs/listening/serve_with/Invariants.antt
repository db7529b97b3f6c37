use Rattle.std.specs.Prelude.{length, slice_index_or}
use Rattle.up_queue.specs.EndViews.{no_queue}
use Rattle.up_server.proofs.listening.serve_with.Given as goal

abbrev pub ghosts-run-B-Ledger : goal.ghosts-run-B-Ledger
ghosts-run-B-Ledger g a = record { name = a.parts.name; parts = a.parts.parts }

abbrev pub ghosts-run-B-Naming : goal.ghosts-run-B-Naming
ghosts-run-B-Naming g a = record {
  queue = λ lane. slice_index_or a.parts.queues lane no_queue;
  lanes = length a.parts.queues;
  max_size = a.settings.now.max_size;
}

abbrev pub ghosts-run-B-Chronicle : goal.ghosts-run-B-Chronicle
ghosts-run-B-Chronicle g a = record { history = g.S.Service.history }
