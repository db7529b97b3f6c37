use Rattle.std.specs.Prelude.{length, slice_index_or}
use Rattle.up_queue.specs.EndViews.{no_queue}
use Rattle.up_tests.proofs.conversations.shows_one_seat_what_another_did.Given as goal

abbrev pub ghosts-two_seats-B-Ledger : goal.ghosts-two_seats-B-Ledger
ghosts-two_seats-B-Ledger g a = record { name = a.parts.name; parts = a.parts.parts }

abbrev pub ghosts-two_seats-B-Naming : goal.ghosts-two_seats-B-Naming
ghosts-two_seats-B-Naming g a = record {
  queue = λ lane. slice_index_or a.parts.queues lane no_queue;
  lanes = length a.parts.queues;
  max_size = 1048576;
}
