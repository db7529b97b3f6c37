use Rattle.std.proofs.Common.{◌≡◌, ◌-◌}
use Rattle.up_log.specs.Reading.{so_many_at, pair_at}
use Rattle.up_log.proofs.Loop.{with_front}
use Rattle.up_log.proofs.reading.so_many_pairs.Given as goal

abbrev pub invariant-loop : goal.invariant-loop
invariant-loop l = with_front l.pairs (so_many_at pair_at (l.count - l.counter) l.rest) ≡ so_many_at pair_at l.count l.bytes
