-- Regions of a part, and spans of its bytes.
use Rattle.std.specs.Prelude.{◌≡◌, ◌⊎◌, ℕ, ◌+◌, ◌-◌, ◌*◌, ◌%◌, ◌^◌, ◌≤◌, ◌<◌, List, [], ◌∷◌, Contains}
use Rattle.dfu_places.specs.declared.region.Span.{Span}
use Rattle.dfu_places.specs.declared.region.Region.{Region}

-- Address after the last byte of a span.
abbrev pub end_of : Span → ℕ
end_of s = s.at + s.len

-- Address after the last byte of a region.
abbrev pub region_end : Region → ℕ
region_end r = r.at + r.sector * r.count

-- A region has sectors, begins at `from` or later, and ends below 2^32.
pub record IsRegion (from : ℕ) (r : Region) : Type 0 where
  pub sector : 0 < r.sector
  pub count : 0 < r.count
  pub after : from ≤ r.at
  pub bound : region_end r < 2 ^ 32

-- The regions have sectors, are in the order of their addresses, begin at `from` or later, do not overlap, and end below 2^32.
abbrev pub AreRegions : ℕ → List Region → Type 0
AreRegions from [] = Unit {0}
AreRegions from (r ∷ rest) = IsRegion from r × AreRegions (region_end r) rest

-- Two spans have no byte in common.
abbrev pub IsApart : Span → Span → Type 0
IsApart a b = (end_of a ≤ b.at) ⊎ (end_of b ≤ a.at)

-- The span lies in the region, which ends below 2^32, and begins at a sector. Each of its parts of `part` bytes consists of whole sectors.
pub record IsWholeInRegion (part : ℕ) (s : Span) (r : Region) : Type 0 where
  pub sector : 0 < r.sector
  pub after : r.at ≤ s.at
  pub edge : (s.at - r.at) % r.sector ≡ 0
  pub parts : part % r.sector ≡ 0
  pub within : end_of s ≤ region_end r
  pub bound : region_end r < 2 ^ 32

-- The span lies in one of the regions, and begins at a sector. Each of its parts of `part` bytes consists of whole sectors.
pub record IsWhole (regions : List Region) (part : ℕ) (s : Span) : Type 0 where
  pub region : Region
  pub has : Contains regions region
  pub split : IsWholeInRegion part s region

-- The span is one sector of a region of the part.
pub record IsSectorOfPart (regions : List Region) (x : Span) : Type 0 where
  pub region : Region
  pub has : Contains regions region
  pub after : region.at ≤ x.at
  pub edge : (x.at - region.at) % region.sector ≡ 0
  pub len : x.len ≡ region.sector
  pub within : end_of x ≤ region_end region
