-- Search for a part in a table of parts.
use Rattle.std.specs.Prelude.{◌≡◌, ⊤, ℕ, ◌+◌, ◌==◌, nat_lt, List, [], ◌∷◌, ◌++◌, length, Option, Some, None, Result, Ok, Err, if◌then◌else◌}
use Rattle.std.specs.Str.{bytes_eq}
use Rattle.dfu_places.specs.declared.region.Region.{Region}
use Rattle.dfu_places.specs.Regions.{region_end}
use Rattle.dfu_plan.specs.declared.row.RowFault.{RowFault}
use Rattle.dfu_plan.specs.declared.row.RowFault.TheVariants.{Order}
use Rattle.dfu_plan.specs.declared.part.PartFault.{PartFault}
use Rattle.dfu_plan.specs.declared.part.PartFault.TheVariants.{BadLine, UnknownPart, NoMemory}
use Rattle.dfu_plan.specs.PartRead.{PartRead, part_without_regions}
use Rattle.dfu_plan.specs.RowRead.{RowRead}
use Rattle.dfu_plan.specs.Rows.{◌>>=◌, row_in}
use Rattle.dfu_plan.specs.Words.{table_lines}

-- Part with the region of one more row, or Order if this region begins before the end of the previous one. The note is that of the first
-- region.
abbrev pub part_with_next_region : RowRead → PartRead → Result PartRead RowFault
part_with_next_region row part =
    if nat_lt row.region.at part.end then Err Order
    else Ok (record {
      regions = part.regions ++ row.region ∷ [];
      note = if length part.regions == 0 then part.note ++ row.note else part.note;
      end = region_end row.region;
    })

-- Part with the region of a row added, if the row names the part.
unfoldable pub part_with_row : (name : List ℕ) → Option RowRead → PartRead → Result PartRead RowFault
part_with_row name None part = Ok part
part_with_row name (Some row) part = if bytes_eq row.name name then part_with_next_region row part else Ok part

-- Part with the region of a line added, if the line names the part.
abbrev pub part_with_line : (name line : List ℕ) → PartRead → Result PartRead RowFault
part_with_line name line part = row_in line >>= λ row. part_with_row name row part

-- Result from a line on: BadLine with the line's number if the line has a fault, else the result of `more` for the following lines.
abbrev pub result_after_line : ℕ → Result PartRead RowFault → (PartRead → Result PartRead PartFault) → Result PartRead PartFault
result_after_line number (Err why) more = Err (BadLine number why)
result_after_line number (Ok part) more = more part

-- Part with the regions of all lines that name it, or BadLine for the first wrong line. The lines are numbered from `number` on.
unfoldable pub part_with_lines : (name : List ℕ) → (number : ℕ) → PartRead → List (List ℕ) → Result PartRead PartFault
part_with_lines name number part [] = Ok part
part_with_lines name number part (line ∷ lines) =
    result_after_line number (part_with_line name line part) (λ more. part_with_lines name (number + 1) more lines)

-- The part if it has a region, UnknownPart if it has none, or an earlier fault.
abbrev pub part_if_known : Result PartRead PartFault → Result PartRead PartFault
part_if_known (Err fault) = Err fault
part_if_known (Ok part) = if length part.regions == 0 then Err UnknownPart else Ok part

-- Part with this name in a table, BadLine for the first wrong line, or else UnknownPart if no line names the part.
abbrev pub part_in : (name table : List ℕ) → Result PartRead PartFault
part_in name table = part_if_known (part_with_lines name 1 part_without_regions (table_lines table))

-- The result is that of the search in the table, or NoMemory.
abbrev pub IsPartResult : Result PartRead PartFault → Result PartRead PartFault → Type 0
IsPartResult stated (Err NoMemory) = ⊤
IsPartResult stated (Err (BadLine number why)) = stated ≡ Err (BadLine number why)
IsPartResult stated (Err UnknownPart) = stated ≡ Err UnknownPart
IsPartResult stated (Ok part) = stated ≡ Ok part
