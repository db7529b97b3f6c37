use Rattle.std.proofs.Common.{rules}
use Rattle.up_test_data.proofs.calls.lines.is_same.Goals as goal

pub returns : goal.returns
returns c = search rules
