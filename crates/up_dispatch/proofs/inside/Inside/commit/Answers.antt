use Rattle.std.proofs.Common.{rules}
use Rattle.up_dispatch.proofs.inside.Inside.commit.Goals as goal

pub returns-in-Err : goal.returns-in-Err
returns-in-Err g c = search rules

pub returns-after-done : goal.returns-after-done
returns-after-done g c = search rules
