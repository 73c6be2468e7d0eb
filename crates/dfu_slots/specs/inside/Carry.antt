-- Conditions under which an operation may be performed on a medium.
use Rattle.std.specs.Prelude.{◌≡◌, ℕ, ◌+◌, ◌*◌, ◌%◌, ◌≤◌, ◌<◌, List, [], ◌∷◌, length}
use Rattle.dfu_slots.specs.declared.operation.Op.{Op}
use Rattle.dfu_slots.specs.declared.operation.Op.TheVariants.{Erase, Program}
use Rattle.dfu_slots.specs.declared.operation.Source.{Source}
use Rattle.dfu_slots.specs.declared.operation.Source.TheVariants.{Joined}
use Rattle.dfu_slots.specs.Units.{IsMultiple, fill_size}
use Rattle.dfu_slots.specs.Medium.{MediumState, AllWrites, IsWritableAhead}
use Rattle.dfu_slots.specs.Image.{gate_of, IsSizedMedium}
use Rattle.dfu_slots.specs.Changes.{CanFormat}
use Rattle.dfu_slots.specs.Operations.{op_writes}

-- The n bytes from `at` on may be written: `at` and n are multiples of the unit, the range lies within a medium of two slots, and writing
-- may begin at `at`.
pub record MayWriteRange (m : MediumState) (at n : ℕ) : Type 0 where
  pub sized : IsSizedMedium m
  pub ahead : IsWritableAhead m at
  pub within : at + n ≤ length m.bytes
  pub place : IsMultiple m.grain.unit at
  pub whole : IsMultiple m.grain.unit n

-- The source provides the bytes of an operation. For Joined all of them lie in the block, or they begin in the held bytes and number at
-- most 256. For another source they begin with its first byte and number at most 256.
abbrev pub IsSourceAtHand : Source → List ℕ → List ℕ → ℕ → ℕ → Type 0
IsSourceAtHand Joined held block skip n = (length held ≤ skip → skip + n ≤ length held + length block) × (skip < length held → n ≤ 256)
IsSourceAtHand _ held block skip n = (skip ≡ 0) × (n ≤ 256)

-- An operation may be performed on this medium: its sector lies within the medium, or its range may be written and its source provides the
-- bytes.
abbrev pub MayCarryOp : MediumState → List ℕ → List ℕ → Op → Type 0
MayCarryOp m held block (Erase at) = (at + m.grain.sector ≤ length m.bytes) × (at % m.grain.sector ≡ 0)
MayCarryOp m held block (Program at source skip n) = MayWriteRange m at n × IsSourceAtHand source held block skip n

-- The operations of a list may be performed one after the other, each after the previous ones worked.
abbrev pub MayCarryAll : MediumState → List ℕ → List ℕ → List ℕ → List Op → Type 0
MayCarryAll m held block header [] = Unit {0}
MayCarryAll m held block header (o ∷ os) = MayCarryOp m held block o
    × ((now : MediumState) → AllWrites m (op_writes m.grain.sector held block header o) now → MayCarryAll now held block header os)

-- The piece of an image that begins at `from` may be written into the data of the first slot: the image fits, `from` is a multiple of the
-- unit before the end of the image's last unit, and a write may begin at this offset of the data.
pub record MayWritePiece (m : MediumState) (image : List ℕ) (from : ℕ) : Type 0 where
  pub can : CanFormat m image
  pub more : from < length image + fill_size m.grain.unit (length image)
  pub whole : IsMultiple m.grain.unit from
  pub ahead : IsWritableAhead m (2 * gate_of m + from)
