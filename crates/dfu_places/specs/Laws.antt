-- Laws of the addresses and erases of a placement.
use Rattle.std.specs.Prelude.{◌≡◌, ℕ, ◌+◌, ◌≤◌, ◌<◌, List, Some, IsSome}
use Rattle.dfu_places.specs.declared.region.Span.{Span}
use Rattle.dfu_places.specs.declared.region.Region.{Region}
use Rattle.dfu_places.specs.declared.placement.Placement.{Placement}
use Rattle.dfu_places.specs.declared.placement.Needs.{Needs}
use Rattle.dfu_places.specs.Regions.{end_of, IsApart, IsWhole, IsSectorOfPart}
use Rattle.dfu_places.specs.Things.{thing_used_bytes}
use Rattle.dfu_places.specs.Placement.{IsPlacement}
use Rattle.dfu_places.specs.Finding.{spot_of, found, erased}

-- Two virtual bytes on the part lie at different addresses.
abbrev pub IsOneToOne : Type 0
IsOneToOne =
    (regions : List Region) (needs : Needs) (p : Placement) (v w a : ℕ) → IsPlacement regions needs p →
    found p v 1 ≡ Some a → found p w 1 ≡ Some a → v ≡ w

-- If a range of virtual bytes lies in one gate, header or data, and on the part, its bytes have consecutive addresses, in the same order.
abbrev pub IsInOrder : Type 0
IsInOrder =
    (p : Placement) (v len i a : ℕ) → found p v len ≡ Some a → i < len → found p (v + i) 1 ≡ Some (a + i)

-- An erase of a virtual sector erases whole sectors of one region, outside the bootloader.
abbrev pub ErasesWhole : Type 0
ErasesWhole =
    (regions : List Region) (needs : Needs) (p : Placement) (v : ℕ) (s : Span) → IsPlacement regions needs p → erased p v ≡ Some s →
    IsWhole regions s.len s × IsApart needs.boot s

-- Erases of two virtual sectors have no byte in common.
abbrev pub ErasesApart : Type 0
ErasesApart =
    (regions : List Region) (needs : Needs) (p : Placement) (v w : ℕ) (s t : Span) → IsPlacement regions needs p →
    v < w → erased p v ≡ Some s → erased p w ≡ Some t → IsApart s t

-- An erase of a virtual sector erases no virtual byte outside that sector.
abbrev pub ErasesItsOwn : Type 0
ErasesItsOwn =
    (regions : List Region) (needs : Needs) (p : Placement) (v w a : ℕ) (s : Span) → IsPlacement regions needs p →
    erased p v ≡ Some s → found p w 1 ≡ Some a → s.at ≤ a → a < end_of s → (v ≤ w) × (w < v + p.sector)

-- Each virtual byte that the store uses is on the part.
abbrev pub UsedBytesAreFound : Type 0
UsedBytesAreFound =
    (regions : List Region) (needs : Needs) (p : Placement) (v len : ℕ) → IsPlacement regions needs p →
    (spot_of p v).offset + len ≤ thing_used_bytes needs p (spot_of p v).rank → IsSome (found p v len)

-- A sector of the part belongs to one erase alone: it lies in the erased span, and contains no byte of another virtual sector.
pub record IsSectorOfErase (p : Placement) (v : ℕ) (s x : Span) : Type 0 where
  pub from : s.at ≤ x.at
  pub to : end_of x ≤ end_of s
  pub own : (w a : ℕ) → found p w 1 ≡ Some a → x.at ≤ a → a < end_of x → (v ≤ w) × (w < v + p.sector)

-- If a sector of the part shares a byte with the erase of a virtual sector, the sector belongs to that erase alone.
abbrev pub ErasesOwnSectors : Type 0
ErasesOwnSectors =
    (regions : List Region) (needs : Needs) (p : Placement) (v a : ℕ) (s x : Span) → IsPlacement regions needs p → erased p v ≡ Some s →
    IsSectorOfPart regions x → s.at ≤ a → a < end_of s → x.at ≤ a → a < end_of x → IsSectorOfErase p v s x
