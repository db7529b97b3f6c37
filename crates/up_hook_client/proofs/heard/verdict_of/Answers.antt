use Rattle.std.proofs.Common.{rules}
use Rattle.up_hook_client.proofs.heard.verdict_of.Goals as goal

pub returns-in-Ok-from_str-clause-allows : goal.returns-in-Ok-from_str-clause-allows
returns-in-Ok-from_str-clause-allows c = search rules
