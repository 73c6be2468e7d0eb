-- Number of operations that a format in C requests.
use Rattle.std.specs.Prelude.{ℕ, suc, ◌+◌, ◌-◌, ◌/◌, ◌≤◌, ◌==◌, List, length, if◌then◌else◌}
use Rattle.dfu_core.specs.declared.config.DfuConfig.{DfuConfig}
use Rattle.dfu_core.specs.declared.record.DfuRecord.{DfuRecord}
use Rattle.dfu_laws.specs.in_c.FormatCalls.{IsBeingFormatted, begins, goes_on}

-- Upper bound of the erases for a format with an image of n bytes: on flash with sectors, 4 for the gates and the header, and one for each
-- sector of the image.
abbrev pub format_erases : (n sector : ℕ) → ℕ
format_erases n sector = if sector == 0 then 0 else 4 + (n + sector - 1) / sector

-- Upper bound of the programs for a format with an image of n bytes: one for each 256 bytes, one for the header and one for the gate that
-- is opened; on flash without sectors, two more for the gates that are closed.
abbrev pub format_programs : (n sector : ℕ) → ℕ
format_programs n sector = (n + 255) / 256 + (if sector == 0 then 4 else 2)

-- Number of calls of a format that returned DFU_WRITE_PENDING so far: one for dfu_core_format_start, and one for each dfu_core_format_took.
abbrev pub format_operation_count : (c : DfuConfig) (image flash : List ℕ) (r : DfuRecord) → IsBeingFormatted c image flash r → ℕ
format_operation_count c image flash r (begins s) = 1
format_operation_count c image flash r (goes_on {flash = before} {r = was} f piece asks) = suc (format_operation_count c image before was f)

-- A format requests at most DFU_FORMAT_ERASES plus DFU_FORMAT_PROGRAMS operations, for the image's length and the sector size. Therefore a
-- loop that runs while the number is DFU_WRITE_PENDING ends.
abbrev pub FormatOperationsBounded : Type 0
FormatOperationsBounded = (c : DfuConfig) (image flash : List ℕ) (r : DfuRecord) (f : IsBeingFormatted c image flash r)
    → format_operation_count c image flash r f ≤ format_erases (length image) c.sector + format_programs (length image) c.sector
