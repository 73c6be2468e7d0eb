use Rattle.dfu_conformance.proofs.FirstPlaces.{all_devices_are_exact_at_first, plain_devices_are_exact_at_first}
use Rattle.dfu_conformance.proofs.judge.Judge.new.Goals as goal

pub returns-clause-whole : goal.returns-clause-whole
returns-clause-whole c = all_devices_are_exact_at_first

pub returns-clause-since : goal.returns-clause-since
returns-clause-since c = plain_devices_are_exact_at_first
