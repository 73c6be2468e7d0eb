-- A memory map, as records for C.
use Rattle.std.specs.Prelude.{◌≡◌, ℕ, ℤ, ◌+◌, ◌*◌, List, length, Some, None}
use Rattle.std.specs.List.{slice_get}
use Rattle.dfu_formats.specs.memory.Reading.{MapContent}
use Rattle.dfu_formats.specs.memory.Grammar.{IsMap, FirstMapFault}
use Rattle.dfu_formats.specs.declared.memory.pages.Access.{Access}
use Rattle.dfu_formats.specs.declared.memory.pages.Pages.{Pages}
use Rattle.dfu_host_c.specs.Refusals.{IsRefusedFor}
use Rattle.dfu_host_c.specs.dfuse.Sessions.{number_of_bit}
use Rattle.dfu_host_c.specs.declared.refusals.HostRefusal.TheVariants as refusal
use Rattle.dfu_host_c.specs.declared.dfuse.map.DfuseMap.{DfuseMap}
use Rattle.dfu_host_c.specs.declared.dfuse.map.DfuseRange.{DfuseRange}

-- Record of a map: the length of its name, and the number of its ranges.
abbrev pub map_record : MapContent → DfuseMap
map_record m = record { name = length m.name; ranges = length m.ranges }

-- Access to pages as a number: bit 0 to read, bit 1 to erase, bit 2 to write.
abbrev pub access_number : Access → ℕ
access_number a = number_of_bit a.is_readable + 2 * number_of_bit a.is_erasable + 4 * number_of_bit a.is_writable

-- Record of a range of pages: its address, the size and the number of its pages, and the access to them as a number.
abbrev pub range_record : Pages → DfuseRange
range_record p = record { start = p.start; size = p.size; count = p.count; access = access_number p.access }

-- The string is not a map, and `result` is the number of its first fault.
abbrev pub IsNoMap : (text : List ℕ) → (result : ℤ) → Type 0
IsNoMap text result = IsRefusedFor refusal.Map (λ fault. FirstMapFault fault text) result

-- The string is a map with this record.
pub record HasMapRecord (text : List ℕ) (r : DfuseMap) : Type 0 where
  pub map : MapContent
  pub is_map : IsMap map text
  pub says : r ≡ map_record map

-- The string is a map whose range `number` has this record.
pub record HasRangeRecord (text : List ℕ) (number : ℕ) (r : DfuseRange) : Type 0 where
  pub map : MapContent
  pub pages : Pages
  pub is_map : IsMap map text
  pub found : slice_get map.ranges number ≡ Some pages
  pub says : r ≡ range_record pages

-- The string is a map that has no range `number`.
pub record HasNoRange (text : List ℕ) (number : ℕ) : Type 0 where
  pub map : MapContent
  pub is_map : IsMap map text
  pub none : slice_get map.ranges number ≡ None
