-- Names of reports by their numbers.
use Rattle.std.specs.Prelude.{ℕ, List, [], option_map, unwrap_or}
use Rattle.dfu_host.specs.ReportName.{report_name}
use Rattle.dfu_host_core.specs.ReportNumbers.{report_at}

-- Name of the report with this number; empty if no report has the number. The name of Refused is without its status code.
abbrev pub name_at : ℕ → List ℕ
name_at number = unwrap_or (option_map report_name (report_at number 0)) []
