use Rattle.dfu_boot.proofs.Uploading.{upload_has_result, next_start_runs_upload}
use Rattle.dfu_boot.proofs.trial.laws.an_upload_gives_what_starts_next.Goals as goal

pub returns-clause-upload : goal.returns-clause-upload
returns-clause-upload c m now tries s are stands carried = upload_has_result m now tries are s stands carried

pub returns-clause-start : goal.returns-clause-start
returns-clause-start c m now tries image s are next stands carried = next_start_runs_upload m now tries are image s next stands carried
