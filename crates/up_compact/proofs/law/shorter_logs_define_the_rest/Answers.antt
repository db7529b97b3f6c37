use Rattle.up_compact.proofs.Others.{logs_without, others_known}
use Rattle.up_compact.proofs.Deciding.{others_decided}
use Rattle.up_compact.proofs.Handing.{others_handed}
use Rattle.up_compact.proofs.Shortening.{shorter_defines}
use Rattle.up_compact.proofs.Adding.{written_defines}
use Rattle.up_compact.proofs.law.shorter_logs_define_the_rest.Goals as goal

pub returns-clause-defines : goal.returns-clause-defines
returns-clause-defines c = shorter_defines

pub returns-clause-known : goal.returns-clause-known
returns-clause-known c = others_known

pub returns-clause-logs : goal.returns-clause-logs
returns-clause-logs c = logs_without

pub returns-clause-decided : goal.returns-clause-decided
returns-clause-decided c = others_decided

pub returns-clause-written : goal.returns-clause-written
returns-clause-written c = written_defines

pub returns-clause-handed : goal.returns-clause-handed
returns-clause-handed c = others_handed
