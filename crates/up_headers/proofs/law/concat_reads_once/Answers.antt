use Rattle.up_headers.proofs.ConcatOnce.{concat_once}
use Rattle.up_headers.proofs.law.concat_reads_once.Goals as goal

pub returns : goal.returns
returns c = concat_once
