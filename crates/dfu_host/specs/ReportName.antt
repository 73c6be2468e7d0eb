-- The names of reports.
use Rattle.std.specs.Prelude.{ℕ, List, codes}
use Rattle.dfu_host.specs.declared.report.Report.{Report}
use Rattle.dfu_host.specs.declared.report.Report.TheVariants as report

-- Name of a report, in lowercase letters. The name of Refused is without its status code.
abbrev pub report_name : Report → List ℕ
report_name report.Installed = codes "installed"
report_name report.Unconfirmed = codes "unconfirmed"
report_name report.Aborted = codes "aborted"
report_name report.GaveUp = codes "gave-up"
report_name (report.Refused code) = codes "refused"
report_name report.RestartsSpent = codes "restarts-spent"
report_name report.Uploaded = codes "uploaded"
report_name report.TooManyBlocks = codes "too-many-blocks"
report_name report.NoMemory = codes "no-memory"
report_name report.Verified = codes "verified"
report_name report.Different = codes "different"
