use Rattle.dfu_slots.proofs.VisibleStores.{capacity_is_room, store_has_shape}
use Rattle.dfu_slots.proofs.UnchangedSlots.{image_at_kept_places_active}
use Rattle.dfu_slots.proofs.slots.Slots.capacity.Goals as goal

pub returns-clause-room : goal.returns-clause-room
returns-clause-room g c = rw (← c.self.view_is) (capacity_is_room _ _ c.capacity_of.ensures)

pub returns-clause-shape : goal.returns-clause-shape
returns-clause-shape g c = rw (← c.self.view_is) (store_has_shape c.self.invariant.store)

pub returns-clause-image : goal.returns-clause-image
returns-clause-image g c = rw (← c.self.view_is) (image_at_kept_places_active c.self.invariant)
