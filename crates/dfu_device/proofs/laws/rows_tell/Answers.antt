use Rattle.dfu_device.proofs.ReportedStatus.{status_report_matches, state_report_matches}
use Rattle.dfu_device.proofs.laws.rows_tell.Goals as goal

pub returns : goal.returns
returns c = record { status = status_report_matches; state = state_report_matches }
