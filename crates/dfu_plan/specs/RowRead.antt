-- A row of a table of parts, as read from a line.
use Rattle.std.specs.Prelude.{ℕ, List}
use Rattle.dfu_places.specs.declared.region.Region.{Region}

-- Name of a part, one of its regions, and the note on the source of the numbers.
pub record RowRead : Type 0 where
  pub name : List ℕ
  pub region : Region
  pub note : List ℕ
