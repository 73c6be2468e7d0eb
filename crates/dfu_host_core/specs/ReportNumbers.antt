-- Reports of sessions as numbers.
use Rattle.std.specs.Prelude.{ℕ, List, [], ◌∷◌, Option, Some, None, option_map, slice_index_or}
use Rattle.std.specs.List.{slice_get}
use Rattle.dfu_wire.specs.declared.codes.Code.{Code}
use Rattle.dfu_wire.specs.declared.codes.Code.TheVariants as code
use Rattle.dfu_wire.specs.Code.{code_byte}
use Rattle.dfu_host.specs.declared.report.Report.{Report}
use Rattle.dfu_host.specs.declared.report.Report.TheVariants as report

-- The status codes in the order of their numbers, 0 to 15.
abbrev status_codes : List Code
status_codes =
    code.Ok ∷ code.Target ∷ code.File ∷ code.Write ∷ code.Erase ∷ code.CheckErased ∷ code.Prog ∷ code.Verify ∷ code.Address ∷
    code.NotDone ∷ code.Firmware ∷ code.Vendor ∷ code.Usbr ∷ code.Por ∷ code.Unknown ∷ code.StalledPkt ∷ []

-- The status code with this number; None for a number over 15.
abbrev pub code_at : ℕ → Option Code
code_at number = slice_get status_codes number

-- Reports in the order of their numbers, 1 to 11; number 0 has no report. The entry of Refused has the status code with number `code`, and
-- is None if there is no such code.
abbrev reports : (code : ℕ) → List (Option Report)
reports code =
    None ∷ Some report.Installed ∷ Some report.Unconfirmed ∷ Some report.Aborted ∷ Some report.GaveUp ∷
    option_map report.Refused (code_at code) ∷ Some report.RestartsSpent ∷ Some report.Uploaded ∷ Some report.TooManyBlocks ∷
    Some report.NoMemory ∷ Some report.Verified ∷ Some report.Different ∷ []

-- The report with this number. None if no report has the number, or for Refused if `code` is not the number of a status code.
abbrev pub report_at : (number code : ℕ) → Option Report
report_at number code = slice_index_or (reports code) number None

-- Numbers of a report, as `report_at` reads them: its number, and the number of its status code for Refused, or 0 for any other report.
abbrev pub report_numbers : Report → ℕ × ℕ
report_numbers report.Installed = (1, 0)
report_numbers report.Unconfirmed = (2, 0)
report_numbers report.Aborted = (3, 0)
report_numbers report.GaveUp = (4, 0)
report_numbers (report.Refused code) = (5, code_byte code)
report_numbers report.RestartsSpent = (6, 0)
report_numbers report.Uploaded = (7, 0)
report_numbers report.TooManyBlocks = (8, 0)
report_numbers report.NoMemory = (9, 0)
report_numbers report.Verified = (10, 0)
report_numbers report.Different = (11, 0)
