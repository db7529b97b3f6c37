use Rattle.std.proofs.Common.{rules}
use Rattle.up_tie.proofs.written.Written.append.Goals as goal

pub returns-clause-durable : goal.returns-clause-durable
returns-clause-durable g c = search rules

pub returns-clause-open : goal.returns-clause-open
returns-clause-open g c = search rules

pub returns-clause-broken : goal.returns-clause-broken
returns-clause-broken g c = search rules
