-- Facts that hold for every slot store.
use Rattle.std.specs.Prelude.{◌≡◌, ◌≤◌, ◌%◌, length}
use Rattle.dfu_slots.specs.Units.{unit_size}
use Rattle.dfu_slots.specs.Medium.{IsWritableAhead}
use Rattle.dfu_slots.specs.Image.{capacity_of, HasImage}
use Rattle.dfu_slots.specs.StoreView.{SlotsState, held_data_place, data_place}

-- The puts end within the spare's data, and exactly the bytes that fill no whole unit are held back. The next write may begin at the offset
-- of the held bytes, because the rest of that sector is erased.
pub record HasPutBytes (s : SlotsState) : Type 0 where
  pub fits : s.put_end ≤ capacity_of s.medium
  pub part : length s.held ≡ s.put_end % unit_size s.medium.grain.unit
  pub ahead : IsWritableAhead s.medium (data_place s (held_data_place s))

-- The state is that of a valid store: its medium has an active image, and its puts are consistent (HasPutBytes).
pub record IsStore (s : SlotsState) : Type 0 where
  pub has_image : HasImage s.medium
  pub puts : HasPutBytes s
