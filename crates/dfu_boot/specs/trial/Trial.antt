-- An image on trial, in one of the two slots of a medium.
use Rattle.std.specs.Prelude.{◌≡◌, ℕ, true, false, List, take}
use Rattle.dfu_slots.specs.Medium.{MediumState}
use Rattle.dfu_slots.specs.Layout.{Slot, ArePlaces, HasHeader, header_length}
use Rattle.dfu_slots.specs.Image.{slot_of, IsSizedMedium, SlotCounts, IsNewest}
use Rattle.dfu_boot.specs.trial.Marks.{is_mark_set}

-- A slot is filled if it counts (`SlotCounts` of dfu_slots), and its header is well-formed.
pub record IsFilledSlot (s : Slot) : Type 0 where
  pub counts : SlotCounts s
  pub header_is : HasHeader s (header_length s)

-- The slot at `at` is on trial beside the slot at `base`, on a medium of two slots. Both are filled. The first is newer and not confirmed,
-- and the second is confirmed.
pub record IsOnTrial (m : MediumState) (at base : ℕ) : Type 0 where
  pub sized : IsSizedMedium m
  pub places : ArePlaces m.bytes at base
  pub newest : IsNewest (slot_of m at) (slot_of m base)
  pub mine : IsFilledSlot (slot_of m at)
  pub other : IsFilledSlot (slot_of m base)
  pub unconfirmed : is_mark_set m at 0 ≡ false
  pub confirmed : is_mark_set m base 0 ≡ true

-- One of the images of a medium is on trial.
pub record HasTrial (m : MediumState) : Type 0 where
  pub at : ℕ
  pub base : ℕ
  pub trial : IsOnTrial m at base

-- Image in the slot at offset `at`, with the length in the slot's header.
abbrev pub image_at : MediumState → ℕ → List ℕ
image_at m at = take (header_length (slot_of m at)) (slot_of m at).data_bytes
