use Rattle.up_headers.proofs.MetadataPairs.{reads_once}
use Rattle.up_headers.proofs.MetadataAnswers.{reading_tells}
use Rattle.up_headers.proofs.MetadataFaults.{faults_once}
use Rattle.up_headers.proofs.law.metadata_reads_once.Goals as goal

pub returns-clause-pairs : goal.returns-clause-pairs
returns-clause-pairs c = reads_once

pub returns-clause-faults : goal.returns-clause-faults
returns-clause-faults c = faults_once

pub returns-clause-readings : goal.returns-clause-readings
returns-clause-readings c = reading_tells
