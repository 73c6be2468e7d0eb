-- A part, as read from a table.
use Rattle.std.specs.Prelude.{ℕ, List, []}
use Rattle.dfu_places.specs.declared.region.Region.{Region}

-- Regions of a part, the note of the first one, and the address after the last one. Without regions, the note is empty and the address is
-- 0.
pub record PartRead : Type 0 where
  pub regions : List Region
  pub note : List ℕ
  pub end : ℕ

abbrev pub part_without_regions : PartRead
part_without_regions = record { regions = []; note = []; end = 0 }
