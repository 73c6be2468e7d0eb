-- Bytes that a loop has compared so far.
use Rattle.std.specs.Prelude.{ℕ, ◌≤◌, List}
use Rattle.dfu_boot.specs.install.Area.{RangeMatchesImage, RangeIsBlank}

-- The bytes from..at of the run area are all FFh.
pub record IsBlankUpTo (run : List ℕ) (from at : ℕ) : Type 0 where
  pub behind : from ≤ at
  pub blank : RangeIsBlank run from at

-- The bytes from..at of the run area equal those of the image.
pub record MatchesImageUpTo (image run : List ℕ) (from at : ℕ) : Type 0 where
  pub behind : from ≤ at
  pub same : RangeMatchesImage image run from at
