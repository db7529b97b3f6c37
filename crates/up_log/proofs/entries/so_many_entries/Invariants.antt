use Rattle.std.proofs.Common.{◌≡◌, ◌-◌}
use Rattle.up_log.specs.Reading.{so_many_at, entry_at}
use Rattle.up_log.proofs.Loop.{with_front}
use Rattle.up_log.proofs.entries.so_many_entries.Given as goal

abbrev pub invariant-loop : goal.invariant-loop
invariant-loop g l =
    with_front l.entries (so_many_at (entry_at (g.C.Contents.content l.files)) (l.count - l.counter) l.rest) ≡ so_many_at (entry_at (g.C.Contents.content l.files)) l.count l.bytes
