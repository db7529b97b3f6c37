use Rattle.std.proofs.Common.{rules}
use Rattle.up_dispatch.proofs.locked.Locked.commit_at.Goals as goal

pub carry_out-requires-clause-next : goal.carry_out-requires-clause-next
carry_out-requires-clause-next g c = search rules
