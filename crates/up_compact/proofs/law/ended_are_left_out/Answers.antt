use Rattle.up_compact.proofs.Ending.{ended_contents, ended_decided, ended_planned, ended_stay}
use Rattle.up_compact.proofs.Handing.{rest_handed}
use Rattle.up_compact.proofs.Switching.{written_goes_on}
use Rattle.up_compact.proofs.law.ended_are_left_out.Goals as goal

pub returns-clause-contents : goal.returns-clause-contents
returns-clause-contents c = ended_contents

pub returns-clause-decided : goal.returns-clause-decided
returns-clause-decided c = ended_decided

pub returns-clause-planned : goal.returns-clause-planned
returns-clause-planned c = ended_planned

pub returns-clause-stays : goal.returns-clause-stays
returns-clause-stays c = ended_stay

pub returns-clause-handed : goal.returns-clause-handed
returns-clause-handed c = rest_handed

pub returns-clause-written : goal.returns-clause-written
returns-clause-written c = written_goes_on
