use Rattle.std.proofs.Common.{◌≡◌, ◌-◌}
use Rattle.up_log.specs.Reading.{so_many_at, id_at}
use Rattle.up_log.proofs.Loop.{with_front}
use Rattle.up_log.proofs.reading.so_many_ids.Given as goal

abbrev pub invariant-loop : goal.invariant-loop
invariant-loop l = with_front l.ids (so_many_at id_at (l.count - l.counter) l.rest) ≡ so_many_at id_at l.count l.bytes
