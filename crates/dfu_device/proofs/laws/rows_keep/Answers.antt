use Rattle.dfu_device.proofs.Kept.{rows_use_store, error_rows_keep_store}
use Rattle.dfu_device.proofs.Errors.{medium_errors_have_cause}
use Rattle.dfu_device.proofs.laws.rows_keep.Goals as goal

pub returns : goal.returns
returns c = record { image = rows_use_store; error = error_rows_keep_store; errors = medium_errors_have_cause }
