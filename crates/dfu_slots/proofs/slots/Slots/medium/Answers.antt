use Rattle.dfu_slots.proofs.UnchangedSlots.{image_at_kept_places_active}
use Rattle.dfu_slots.proofs.slots.Slots.medium.Goals as goal

pub returns-clause-active : goal.returns-clause-active
returns-clause-active g c = rw (← c.self.view_is) (image_at_kept_places_active c.self.invariant)
