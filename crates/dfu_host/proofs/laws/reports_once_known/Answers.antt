use Rattle.dfu_host.proofs.Installing.{installed_only_if_confirmed, verified_only_if_matched}
use Rattle.dfu_host.proofs.Verifying.{verify_ends_with_verify_report}
use Rattle.dfu_host.proofs.laws.reports_once_known.Goals as goal

pub returns : goal.returns
returns c = record { installed = installed_only_if_confirmed; verified = verified_only_if_matched; own = verify_ends_with_verify_report }
