use Rattle.dfu_boot.proofs.Outcomes.{trial_continues_or_ends}
use Rattle.dfu_boot.proofs.trial.laws.a_trial_ends_or_goes_on.Goals as goal

pub returns : goal.returns
returns c m now tries t are stands carried = trial_continues_or_ends m now tries t are stands carried
