use Rattle.std.proofs.Common.{◌≡◌, ◌++◌, length, take}
use Rattle.std.specs.List.{flat_map}
use Rattle.up_log.specs.Spelling.{word, id}
use Rattle.up_log.proofs.writing.put_ids.Given as goal

abbrev pub invariant-loop-upload : goal.invariant-loop-upload
invariant-loop-upload l = l.out.items ≡ (l.fn.out.items ++ word (length l.ids)) ++ flat_map id (take l.upload-index l.ids)
