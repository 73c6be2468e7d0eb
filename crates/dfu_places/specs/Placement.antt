-- Rules of a placement, and refusals that name the first broken rule.
use Rattle.std.specs.Prelude.{◌≡◌, ℕ, ◌%◌, ◌^◌, ◌≤◌, ◌<◌, ◌≢◌, List, Option, Some, None}
use Rattle.dfu_places.specs.declared.region.Span.{Span}
use Rattle.dfu_places.specs.declared.region.Region.{Region}
use Rattle.dfu_places.specs.declared.placement.Placement.{Placement}
use Rattle.dfu_places.specs.declared.placement.Needs.{Needs}
use Rattle.dfu_places.specs.declared.refusal.Thing.{Thing}
use Rattle.dfu_places.specs.declared.refusal.PlacementRefusal.{PlacementRefusal}
use Rattle.dfu_places.specs.declared.refusal.PlacementRefusal.TheVariants.{BadRegions, BadSector, BadCapacity, Unequal, NotWhole, NoRoom, InBootloader, Shared, NoPlacement}
use Rattle.dfu_places.specs.declared.refusal.Thing.TheVariants.{FirstGate, FirstHeader, FirstData, SecondGate, SecondHeader, SecondData, RunArea}
use Rattle.dfu_places.specs.Regions.{AreRegions, IsApart, IsWhole}
use Rattle.dfu_places.specs.Things.{things, rank, span_at, part_at, room_at, bytes_at}

-- The size of a virtual sector is allowed: a multiple of 256, from 256 to 2^18.
pub record IsSectorSize (sector : ℕ) : Type 0 where
  pub pages : sector % 256 ≡ 0
  pub some : 0 < sector
  pub most : sector ≤ 2 ^ 18

-- The length of the first data is allowed: 1 to 2^24 bytes, in whole virtual sectors.
pub record IsCapacity (sector len : ℕ) : Type 0 where
  pub some : 0 < len
  pub most : len ≤ 2 ^ 24
  pub whole : len % sector ≡ 0

-- A run area is as long as the data of a slot. Without a run area there is no condition.
abbrev pub RunHasDataLength : Option Span → ℕ → Type 0
RunHasDataLength (Some span) len = span.len ≡ len
RunHasDataLength None len = Unit {0}

-- The rule holds for each `Thing` of a rank below `count`.
abbrev pub HoldsForThings : (ℕ → Type 0) → ℕ → Type 0
HoldsForThings Rule count = (i : ℕ) → i < count → Rule i

-- The `Thing` of rank `i`, below `count`, is the first one that breaks a rule.
pub record IsFirstThingBreaking (Rule : ℕ → Type 0) (count : ℕ) (i : ℕ) : Type 0 where
  pub within : i < count
  pub before : HoldsForThings Rule i
  pub broken : ¬ Rule i

-- The `Thing` of rank `i` lies in one region, begins at a sector, and each part of it that is erased together consists of whole sectors.
abbrev pub IsThingWhole : List Region → Placement → ℕ → Type 0
IsThingWhole regions p i = IsWhole regions (part_at p i) (span_at p i)

-- The `Thing` of rank `i` has at least the bytes that it needs. Bytes of a gate or header beyond one virtual sector don't count.
abbrev pub HasNeededBytes : Needs → Placement → ℕ → Type 0
HasNeededBytes needs p i = room_at needs i ≤ bytes_at p i

-- The `Thing` of rank `i` has no byte in common with a span.
abbrev pub IsThingApartFrom : Span → Placement → ℕ → Type 0
IsThingApartFrom span p i = IsApart span (span_at p i)

-- The `Thing` of rank `j` has no byte in common with those of lower ranks.
abbrev pub IsApartFromEarlierThings : Placement → ℕ → Type 0
IsApartFromEarlierThings p j = HoldsForThings (IsThingApartFrom (span_at p j) p) j

-- The regions are in order, and the virtual sector, the first data, the second data and the run area have allowed sizes.
pub record HasAllowedSizes (regions : List Region) (p : Placement) : Type 0 where
  pub ordered : AreRegions 0 regions
  pub sector : IsSectorSize p.sector
  pub capacity : IsCapacity p.sector p.first.data.len
  pub second : p.second.data.len ≡ p.first.data.len
  pub run : RunHasDataLength p.run p.first.data.len

-- The placement satisfies all rules on a part with these regions.
pub record IsPlacement (regions : List Region) (needs : Needs) (p : Placement) : Type 0 where
  pub sizes : HasAllowedSizes regions p
  pub whole : HoldsForThings (IsThingWhole regions p) (things p)
  pub roomy : HoldsForThings (HasNeededBytes needs p) (things p)
  pub outside : HoldsForThings (IsThingApartFrom needs.boot p) (things p)
  pub own : HoldsForThings (IsApartFromEarlierThings p) (things p)

-- This `Thing` is the first one that is not as long as the first data, although it must be: the second data, or else the run area.
abbrev pub HasOtherDataLength : Placement → Thing → Type 0
HasOtherDataLength p FirstGate = ⊥
HasOtherDataLength p FirstHeader = ⊥
HasOtherDataLength p FirstData = ⊥
HasOtherDataLength p SecondGate = ⊥
HasOtherDataLength p SecondHeader = ⊥
HasOtherDataLength p SecondData = p.second.data.len ≢ p.first.data.len
HasOtherDataLength p RunArea = (p.second.data.len ≡ p.first.data.len) × (¬ RunHasDataLength p.run p.first.data.len)

-- The placement satisfies all rules on some part, for some needs.
pub record IsPlaced (p : Placement) : Type 0 where
  pub regions : List Region
  pub needs : Needs
  pub accepted : IsPlacement regions needs p

-- The refusal names the first rule about sizes that the placement breaks.
abbrev pub IsFirstRefusalOfSizes : List Region → Placement → PlacementRefusal → Type 0
IsFirstRefusalOfSizes regions p BadRegions = ¬ AreRegions 0 regions
IsFirstRefusalOfSizes regions p BadSector = AreRegions 0 regions × (¬ IsSectorSize p.sector)
IsFirstRefusalOfSizes regions p BadCapacity =
    AreRegions 0 regions × IsSectorSize p.sector × (¬ IsCapacity p.sector p.first.data.len)
IsFirstRefusalOfSizes regions p (Unequal thing) =
    AreRegions 0 regions × IsSectorSize p.sector × IsCapacity p.sector p.first.data.len × HasOtherDataLength p thing
IsFirstRefusalOfSizes regions p (NotWhole thing) = ⊥
IsFirstRefusalOfSizes regions p (NoRoom thing) = ⊥
IsFirstRefusalOfSizes regions p (InBootloader thing) = ⊥
IsFirstRefusalOfSizes regions p (Shared thing other) = ⊥
IsFirstRefusalOfSizes regions p NoPlacement = ⊥

-- The ranks `i` and `j` are those of the first two overlapping spans: the lowest `j`, and for it the lowest `i`.
pub record AreFirstOverlapping (p : Placement) (i j : ℕ) : Type 0 where
  pub within : j < things p
  pub before : HoldsForThings (IsApartFromEarlierThings p) j
  pub meets : IsFirstThingBreaking (IsThingApartFrom (span_at p j) p) j i

-- The refusal names the first rule that the placement breaks, and the first `Thing` that breaks it.
abbrev pub FirstRefusal : List Region → Needs → Placement → PlacementRefusal → Type 0
FirstRefusal regions needs p BadRegions = IsFirstRefusalOfSizes regions p BadRegions
FirstRefusal regions needs p BadSector = IsFirstRefusalOfSizes regions p BadSector
FirstRefusal regions needs p BadCapacity = IsFirstRefusalOfSizes regions p BadCapacity
FirstRefusal regions needs p (Unequal thing) = IsFirstRefusalOfSizes regions p (Unequal thing)
FirstRefusal regions needs p (NotWhole thing) =
    HasAllowedSizes regions p × IsFirstThingBreaking (IsThingWhole regions p) (things p) (rank thing)
FirstRefusal regions needs p (NoRoom thing) =
    HasAllowedSizes regions p × HoldsForThings (IsThingWhole regions p) (things p)
    × IsFirstThingBreaking (HasNeededBytes needs p) (things p) (rank thing)
FirstRefusal regions needs p (InBootloader thing) =
    HasAllowedSizes regions p × HoldsForThings (IsThingWhole regions p) (things p) × HoldsForThings (HasNeededBytes needs p) (things p)
    × IsFirstThingBreaking (IsThingApartFrom needs.boot p) (things p) (rank thing)
FirstRefusal regions needs p (Shared thing other) =
    HasAllowedSizes regions p × HoldsForThings (IsThingWhole regions p) (things p) × HoldsForThings (HasNeededBytes needs p) (things p)
    × HoldsForThings (IsThingApartFrom needs.boot p) (things p) × AreFirstOverlapping p (rank thing) (rank other)
FirstRefusal regions needs p NoPlacement = ⊥
