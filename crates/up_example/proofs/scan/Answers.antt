use Rattle.std.proofs.Common.{rules}
use Rattle.up_example.proofs.scan.Goals as goal

pub returns-then-upload-gt8 : goal.returns-then-upload-gt8
returns-then-upload-gt8 g c = search rules
