use Rattle.std.proofs.Common.{ℕ, ◌<◌}
use Rattle.std.specs.List.{slice_index_or}
use Rattle.dfu_places.specs.declared.region.Region.{Region}
use Rattle.dfu_places.specs.Regions.{IsWholeInRegion}
use Rattle.dfu_places.proofs.region.is_whole.Given as goal

abbrev pub invariant-loop-region : goal.invariant-loop-region
invariant-loop-region l = (k : ℕ) (d : Region) → k < l.region-index → IsWholeInRegion l.part l.span (slice_index_or l.regions k d) → ⊥
