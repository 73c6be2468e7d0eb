use Rattle.dfu_laws.proofs.judge.Histories.{histories_conform, devices_from_start_conform}
use Rattle.dfu_laws.proofs.laws.answers_are_kept.Goals as goal

pub returns-clause-history : goal.returns-clause-history
returns-clause-history c = histories_conform

pub returns-clause-start : goal.returns-clause-start
returns-clause-start c = devices_from_start_conform
