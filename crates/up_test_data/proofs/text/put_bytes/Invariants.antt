use Rattle.std.proofs.Common.{length}
use Rattle.up_test_data.proofs.text.put_bytes.Given as goal

abbrev pub decreases-loop-rest : goal.decreases-loop-rest
decreases-loop-rest l = length l.rest
