use Rattle.dfu_boot.proofs.Outcomes.{confirmed_or_trial_continues}
use Rattle.dfu_boot.proofs.trial.laws.a_confirmation_holds_or_the_trial_goes_on.Goals as goal

pub returns : goal.returns
returns c m now tries t are stands carried = confirmed_or_trial_continues m now tries t are stands carried
