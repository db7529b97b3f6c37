use Rattle.std.proofs.Common.{◌++◌, length, ap}
use Rattle.std.proofs.lemmas.List.{drop-replicate}
use Rattle.up_machine.proofs.reason.padded.Goals as goal

pub returns : goal.returns
returns c = rw c.copy_from_slice.ensures.after (ap (λ t. c.args.text.now ++ t) (drop-replicate (length c.args.text.now) 80 0))
