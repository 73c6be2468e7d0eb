use Rattle.dfu_suffix.proofs.LawProofs.{either_file_or_fault}
use Rattle.dfu_suffix.proofs.OneReading.{one_reading}
use Rattle.dfu_suffix.proofs.laws.one_reading.Goals as goal

pub returns-clause-either : goal.returns-clause-either
returns-clause-either c = either_file_or_fault

pub returns-clause-one : goal.returns-clause-one
returns-clause-one c = one_reading
