use Rattle.std.proofs.Common.{◌≡◌, ◌++◌, length, take}
use Rattle.std.specs.List.{flat_map}
use Rattle.up_log.specs.Spelling.{word, pair}
use Rattle.up_log.proofs.writing.put_pairs.Given as goal

abbrev pub invariant-loop-both : goal.invariant-loop-both
invariant-loop-both l = l.out.items ≡ (l.fn.out.items ++ word (length l.pairs)) ++ flat_map pair (take l.both-index l.pairs)
