-- Flash that is mapped into memory, where the library reads it. Only its owner writes it.
use Rattle.std.specs.Prelude.{◌≡◌, ◌≢◌, ◌⊎◌, ◌+◌, ◌-◌, ◌^◌, ◌≤◌, ◌<◌, ℕ, List, [], slice_index}
use Rattle.dfu_slots.specs.declared.layout.Unit.{Unit as WriteUnit}
use Rattle.dfu_slots.specs.Units.{Grain}
use Rattle.dfu_slots.specs.Medium.{MediumState, Fuse}
use Rattle.dfu_slots.specs.Medium.Fuse.{Unknown}
use Rattle.dfu_slots.specs.Layout.{slot_size, OPEN}
use Rattle.dfu_slots.specs.Image.{gate_of, spare_at, HasImage}
use Rattle.dfu_asks.specs.declared.sector.Sector.{Sector}

-- Grain of flash that is written in units of this size and erased in sectors of this size.
abbrev pub grain_of : WriteUnit → Sector → Grain
grain_of unit sector = record { unit = unit; sector = sector.size }

-- Medium with these bytes, which its owner writes in this grain. Its next writes may have any outcome.
abbrev pub mapped_medium : Grain → List ℕ → MediumState
mapped_medium grain bytes = record { bytes = bytes; failures = 2 ^ 64 - 1; fuse = Unknown; grain = grain; tag = [] }

-- State of a medium that its bytes don't show: the number of failed writes, the fuse, and the owner's tag.
pub record UnseenState : Type 0 where
  pub failures : ℕ
  pub fuse : Fuse
  pub tag : List ℕ

-- Medium with these bytes and this unseen state. Every medium with these bytes and this grain has this form.
abbrev pub mapped_medium_with : UnseenState → Grain → List ℕ → MediumState
mapped_medium_with u grain bytes = record { bytes = bytes; failures = u.failures; fuse = u.fuse; grain = grain; tag = u.tag }

-- The `len` bytes from `at` on lie within the spare slot of a medium.
pub record RangeIsInSpare (m : MediumState) (at len : ℕ) : Type 0 where
  pub from : spare_at (gate_of m) m.bytes ≤ at
  pub to : at + len ≤ spare_at (gate_of m) m.bytes + slot_size m.bytes

-- `slot` is the offset of the slot that contains `at`: 0 if `at` is less than the size of a slot, else that size.
abbrev pub IsSlotOf : ℕ → ℕ → ℕ → Type 0
IsSlotOf at size slot = ((at < size) × (slot ≡ 0)) ⊎ ((size ≤ at) × (slot ≡ size))

-- The device never writes the range: if a slot contains the range, that slot is open, and isn't the spare slot of an active image.
abbrev pub IsProtectedRange : MediumState → ℕ → ℕ → Type 0
IsProtectedRange m at len = (slot : ℕ) → (slot ≡ 0) ⊎ (slot ≡ slot_size m.bytes) → slot ≤ at → at + len ≤ slot + slot_size m.bytes
    → (slice_index m.bytes slot ≡ OPEN) × (HasImage m → spare_at (gate_of m) m.bytes ≢ slot)
