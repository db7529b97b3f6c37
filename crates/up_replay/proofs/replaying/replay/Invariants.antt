use Rattle.std.proofs.Common.{◌≡◌, length, reverse}
use Rattle.up_replay.specs.Replay.{replayed}
use Rattle.up_replay.proofs.replaying.replay.Given as goal

abbrev pub invariant-loop-entry : goal.invariant-loop-entry
invariant-loop-entry l = replayed l.book (reverse l.rest.items) ≡ replayed l.fn.book l.fn.entries

abbrev pub decreases-loop-entry : goal.decreases-loop-entry
decreases-loop-entry l = length l.rest.items
