use Rattle.std.proofs.Common.{rules}
use Rattle.up_server.proofs.random_ids.RandomIdsIds.next_id.Goals as goal

pub returns : goal.returns
returns c = search rules
