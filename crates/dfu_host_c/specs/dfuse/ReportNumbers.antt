-- Reports of DfuSe sessions as numbers.
use Rattle.std.specs.Prelude.{ℕ, List, [], ◌∷◌, Option, Some, None, option_map, slice_index_or}
use Rattle.std.specs.List.{slice_get}
use Rattle.dfu_wire.specs.Code.{code_byte}
use Rattle.dfuse_host.specs.declared.report.Report.{Report}
use Rattle.dfuse_host.specs.declared.report.Report.TheVariants as report
use Rattle.dfuse_host.specs.declared.report.Leaving.{Leaving}
use Rattle.dfuse_host.specs.declared.report.Leaving.TheVariants as leaving
use Rattle.dfu_host_core.specs.ReportNumbers.{code_at}

-- The `Leaving` with this number; None for a number over 2.
abbrev pub leaving_at : ℕ → Option Leaving
leaving_at number = slice_get (leaving.Stayed ∷ leaving.Left ∷ leaving.Unknown ∷ []) number

-- Reports in the order of their numbers, 1 to 7; number 0 has no report. `more` is the number of the `Leaving` for Verified, and of the
-- status code for Refused.
abbrev dfuse_reports : (more : ℕ) → List (Option Report)
dfuse_reports more =
    None ∷ option_map report.Verified (leaving_at more) ∷ Some report.Different ∷ option_map report.Refused (code_at more) ∷
    Some report.ReadProtected ∷ Some report.GaveUp ∷ Some report.RestartsSpent ∷ Some report.NotDfu ∷ []

-- The report with this number; None for another number, or if `more` is no number of a `Leaving` (Verified) or a status code (Refused).
abbrev pub dfuse_report_at : (number more : ℕ) → Option Report
dfuse_report_at number more = slice_index_or (dfuse_reports more) number None

-- Number of a `Leaving`, as `leaving_at` reads it.
abbrev pub leaving_number : Leaving → ℕ
leaving_number leaving.Stayed = 0
leaving_number leaving.Left = 1
leaving_number leaving.Unknown = 2

-- Numbers of a report, as `dfuse_report_at` reads them: its number, and that of its `Leaving` or status code, or 0 for other reports.
abbrev pub dfuse_report_numbers : Report → ℕ × ℕ
dfuse_report_numbers (report.Verified l) = (1, leaving_number l)
dfuse_report_numbers report.Different = (2, 0)
dfuse_report_numbers (report.Refused code) = (3, code_byte code)
dfuse_report_numbers report.ReadProtected = (4, 0)
dfuse_report_numbers report.GaveUp = (5, 0)
dfuse_report_numbers report.RestartsSpent = (6, 0)
dfuse_report_numbers report.NotDfu = (7, 0)
