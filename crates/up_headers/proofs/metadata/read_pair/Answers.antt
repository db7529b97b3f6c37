use Rattle.std.proofs.Common.{rules}
use Rattle.up_headers.proofs.metadata.read_pair.Goals as goal

pub returns-in_ok-from_slice-in-Ok : goal.returns-in_ok-from_slice-in-Ok
returns-in_ok-from_slice-in-Ok c = search rules
