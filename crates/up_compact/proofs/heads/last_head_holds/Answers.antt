use Rattle.up_compact.proofs.Holding.{last_holds}
use Rattle.up_compact.proofs.heads.last_head_holds.Goals as goal

pub returns : goal.returns
returns c = last_holds
