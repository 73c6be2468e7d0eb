-- Definitions of two slots and the active image, given the bytes of a medium and the size of a gate's space.
use Rattle.std.proofs.Common.{◌≡◌, ℕ, ◌*◌, ◌^◌, ◌≤◌, ◌<◌, List, length, take}
use Rattle.dfu_slots.specs.Units.{IsWhole}
use Rattle.dfu_slots.specs.Medium.{MediumState}
use Rattle.dfu_slots.specs.Layout.{slot_size, capacity, ArePlaces, slot, HasHeader}
use Rattle.dfu_slots.specs.Image.{gate_of, capacity_of, IsSizedMedium, IsNewest, Active}

-- The bytes form two slots of equal size, with 1 to 2^24 bytes of data each.
pub record HasTwoSlots (g : ℕ) (bytes : List ℕ) : Type 0 where
  pub even : length bytes ≡ 2 * slot_size bytes
  pub room : 2 * g < slot_size bytes
  pub bound : capacity g bytes ≤ 2 ^ 24

-- The slot at `at` is the newest, the other slot is at `spare`, and the slot at `at` holds this image.
pub record ActiveAt (g : ℕ) (bytes : List ℕ) (at spare : ℕ) (image : List ℕ) : Type 0 where
  pub sized : HasTwoSlots g bytes
  pub places : ArePlaces bytes at spare
  pub newest : IsNewest (slot g bytes at) (slot g bytes spare)
  pub header_is : HasHeader (slot g bytes at) (length image)
  pub image_is : image ≡ take (length image) (slot g bytes at).data_bytes

-- If the length of a medium allows exactly two slots, its bytes form two slots.
pub sized_medium_has_two_slots : (m : MediumState) → IsSizedMedium m → HasTwoSlots (gate_of m) m.bytes
sized_medium_has_two_slots m sized = record { even = sized.even; room = sized.room; bound = sized.bound }

-- An active image satisfies ActiveAt at the offset of its slot.
pub active_image_at_its_place : {m : MediumState} {image : List ℕ} (a : Active m image) → ActiveAt (gate_of m) m.bytes a.at a.spare image
active_image_at_its_place {m} a = record {
  sized = sized_medium_has_two_slots m a.sized;
  places = a.places;
  newest = a.newest;
  header_is = a.header_is;
  image_is = a.image_is;
}

-- An image that satisfies ActiveAt is the active one, if the slots' data is a whole number of units and sectors.
pub image_at_place_is_active : (m : MediumState) (at spare : ℕ) (image : List ℕ) → IsWhole m.grain (capacity_of m)
    → ActiveAt (gate_of m) m.bytes at spare image → Active m image
image_at_place_is_active m at spare image whole stands = record {
  sized = record { even = stands.sized.even; room = stands.sized.room; bound = stands.sized.bound; whole = whole };
  at = at;
  spare = spare;
  places = stands.places;
  newest = stands.newest;
  header_is = stands.header_is;
  image_is = stands.image_is;
}
