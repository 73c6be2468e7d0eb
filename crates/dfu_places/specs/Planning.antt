-- Areas of a plan, and refusals of a plan.
use Rattle.std.specs.Prelude.{List, Option, Some, None}
use Rattle.dfu_places.specs.declared.region.Span.{Span}
use Rattle.dfu_places.specs.declared.region.Region.{Region}
use Rattle.dfu_places.specs.declared.placement.Placement.{Placement}
use Rattle.dfu_places.specs.declared.planning.Areas.{Areas}
use Rattle.dfu_places.specs.declared.planning.Areas.TheVariants.{Two, Three}
use Rattle.dfu_places.specs.declared.refusal.PlacementRefusal.{PlacementRefusal}
use Rattle.dfu_places.specs.declared.refusal.PlacementRefusal.TheVariants.{BadRegions, BadSector, BadCapacity, Unequal, NotWhole, NoRoom, InBootloader, Shared, NoPlacement}
use Rattle.dfu_places.specs.Regions.{AreRegions}

-- There is a run area exactly if there are three areas.
abbrev pub RunMatchesAreas : Areas → Option Span → Type 0
RunMatchesAreas Two None = Unit {0}
RunMatchesAreas Two (Some span) = ⊥
RunMatchesAreas Three None = ⊥
RunMatchesAreas Three (Some span) = Unit {0}

-- The placement has a run area exactly if its plan has three areas.
abbrev pub HasAreas : Areas → Placement → Type 0
HasAreas areas p = RunMatchesAreas areas p.run

-- Refusals of a plan: the regions are not in order, or they are in order and no placement was found.
abbrev pub IsPlanRefusal : List Region → PlacementRefusal → Type 0
IsPlanRefusal regions BadRegions = ¬ AreRegions 0 regions
IsPlanRefusal regions NoPlacement = AreRegions 0 regions
IsPlanRefusal regions BadSector = ⊥
IsPlanRefusal regions BadCapacity = ⊥
IsPlanRefusal regions (Unequal thing) = ⊥
IsPlanRefusal regions (NotWhole thing) = ⊥
IsPlanRefusal regions (NoRoom thing) = ⊥
IsPlanRefusal regions (InBootloader thing) = ⊥
IsPlanRefusal regions (Shared thing other) = ⊥
