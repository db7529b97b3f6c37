use Rattle.std.proofs.Common.{rules}
use Rattle.up_dispatch.proofs.service.converse_at.Goals as goal

pub returns : goal.returns
returns g c = search rules
