use Rattle.std.proofs.Common.{drop}
use Rattle.dfu_places.specs.Regions.{AreRegions}
use Rattle.dfu_places.proofs.region.are_regions.Given as goal

-- All regions are in order exactly if the remaining ones, from this region on, are in order from address `from` on.
abbrev pub invariant-loop-region : goal.invariant-loop-region
invariant-loop-region l =
    (AreRegions l.from (drop l.region-index l.regions) → AreRegions 0 l.regions)
    × (AreRegions 0 l.regions → AreRegions l.from (drop l.region-index l.regions))
