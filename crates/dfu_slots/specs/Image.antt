-- Slots of a medium, and its active image.
use Rattle.std.specs.Prelude.{◌≡◌, ◌⊎◌, ◌&&◌, ◌||◌, not, ℕ, ◌+◌, ◌*◌, ◌%◌, ◌^◌, ◌<◌, ◌≤◌, Bool, List, length, take, if◌then◌else◌, ◌==◌, nat_le}
use Rattle.std.specs.Str.{bytes_eq}
use Rattle.dfu_suffix.specs.Register.{register}
use Rattle.dfu_slots.specs.Units.{gate_room, IsWhole}
use Rattle.dfu_slots.specs.Medium.{MediumState, Fuse}
use Rattle.dfu_slots.specs.Layout.{Slot, slot, slot_size, capacity, OPEN, generation, next_generation, header_version, header_length, header, HasHeader}

-- Number of bytes that the gate of a slot occupies on a medium. The header occupies as many.
abbrev pub gate_of : MediumState → ℕ
gate_of m = gate_room m.grain

-- Slot of a medium that begins at offset `at`.
abbrev pub slot_of : MediumState → ℕ → Slot
slot_of m at = slot (gate_room m.grain) m.bytes at

-- Number of data bytes of each slot of a medium.
abbrev pub capacity_of : MediumState → ℕ
capacity_of m = capacity (gate_of m) m.bytes

-- A medium consists of exactly two slots: two equal halves, each with 1 to 2^24 bytes of data, which are a whole number of units and
-- sectors. The store supports the sector size.
pub record IsSizedMedium (m : MediumState) : Type 0 where
  pub even : length m.bytes ≡ 2 * slot_size m.bytes
  pub room : 2 * gate_room m.grain < slot_size m.bytes
  pub bound : capacity (gate_room m.grain) m.bytes ≤ 2 ^ 24
  pub whole : IsWhole m.grain (capacity (gate_room m.grain) m.bytes)

-- A slot counts if its gate is open and, for version 2, its header is well formed. For any other version an open gate is enough.
pub record SlotCounts (s : Slot) : Type 0 where
  pub is_open : s.gate ≡ OPEN
  pub intact : header_version s ≡ 2 → HasHeader s (header_length s)

-- The slot `mine` is the newest if it counts, and `other` doesn't count or is one generation older. Generation 0 follows 255.
pub record IsNewest (mine other : Slot) : Type 0 where
  pub counts : SlotCounts mine
  pub other_is_older : ¬ SlotCounts other ⊎ generation mine ≡ (generation other + 1) % 256

-- `image` is the active image of m: the first data bytes of the newest slot, as many as the length in that slot's header.
pub record Active (m : MediumState) (image : List ℕ) : Type 0 where
  pub sized : IsSizedMedium m
  pub at : ℕ
  pub spare : ℕ
  pub places : ((at ≡ 0) × (spare ≡ slot_size m.bytes)) ⊎ ((at ≡ slot_size m.bytes) × (spare ≡ 0))
  pub newest : IsNewest (slot_of m at) (slot_of m spare)
  pub header_is : HasHeader (slot_of m at) (length image)
  pub image_is : image ≡ take (length image) (slot_of m at).data_bytes

-- A medium has an active image.
pub record HasImage (m : MediumState) : Type 0 where
  pub image : List ℕ
  pub active : Active m image

-- An active image stays active if the fuse of the medium changes.
pub active_image_on_other_fuse : (m : MediumState) (fuse : Fuse) (image : List ℕ) → Active m image → Active (record m { fuse = fuse }) image
active_image_on_other_fuse m fuse image active = record {
  sized = record { even = active.sized.even; room = active.sized.room; bound = active.sized.bound; whole = active.sized.whole };
  at = active.at;
  spare = active.spare;
  places = active.places;
  newest = active.newest;
  header_is = active.header_is;
  image_is = active.image_is;
}

-- A medium with an active image still has one if its fuse changes.
pub has_image_on_other_fuse : (m : MediumState) (fuse : Fuse) → HasImage m → HasImage (record m { fuse = fuse })
has_image_on_other_fuse m fuse has = record { image = has.image; active = active_image_on_other_fuse m fuse has.image has.active }

-- Tests that find the active slot and the spare slot.

-- True if a slot has a well-formed header of version 2.
unfoldable pub is_intact : Slot → Bool
is_intact s =
    let len = header_length s in
    nat_le len (length s.data_bytes) && bytes_eq s.header (header 2 (generation s) len (register (take len s.data_bytes)))

-- True exactly if SlotCounts holds for the slot.
abbrev pub slot_counts : Slot → Bool
slot_counts s = (s.gate == OPEN) && (not (header_version s == 2) || is_intact s)

-- True if the slot `mine` counts, and `other` doesn't count or is one generation older.
abbrev pub is_newest : Slot → Slot → Bool
is_newest mine other = slot_counts mine && (not (slot_counts other) || (generation mine == next_generation (generation other)))

-- True if the first slot is the active one. On a medium without an active image, this test and the offsets below have no meaning.
abbrev pub first_is_active : ℕ → List ℕ → Bool
first_is_active g bytes = is_newest (slot g bytes 0) (slot g bytes (slot_size bytes))

-- Offset of the active slot, on a medium that has an active image.
abbrev pub active_at : ℕ → List ℕ → ℕ
active_at g bytes = if first_is_active g bytes then 0 else slot_size bytes

-- Offset of the spare slot, on a medium that has an active image.
abbrev pub spare_at : ℕ → List ℕ → ℕ
spare_at g bytes = if first_is_active g bytes then slot_size bytes else 0

-- Content of the spare slot.
abbrev pub spare : ℕ → List ℕ → Slot
spare g bytes = slot g bytes (spare_at g bytes)
