use Rattle.dfu_boot.proofs.Starts.{start_has_result, image_active_after_start}
use Rattle.dfu_boot.proofs.trial.laws.a_start_runs_one_of_two.Goals as goal

pub returns-clause-starts : goal.returns-clause-starts
returns-clause-starts c m now tries s are stands carried = start_has_result m now tries are s stands carried

pub returns-clause-image : goal.returns-clause-image
returns-clause-image c m now tries s ran are stands came = image_active_after_start m now tries are s ran stands came
