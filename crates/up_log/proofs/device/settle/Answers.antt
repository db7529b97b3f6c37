use Rattle.std.proofs.Common.{rules}
use Rattle.up_log.proofs.device.settle.Goals as goal

pub returns-clause-synced : goal.returns-clause-synced
returns-clause-synced g c = search rules
