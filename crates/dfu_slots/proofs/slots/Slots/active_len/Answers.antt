use Rattle.std.proofs.Common.{length}
use Rattle.dfu_slots.proofs.Unique.{active_slot_counts, active_slot_has_its_header, active_header_fits}
use Rattle.dfu_slots.proofs.UnchangedSlots.{image_at_kept_places_active}
use Rattle.dfu_slots.proofs.slots.Slots.active_len.Goals as goal

pub header_len-requires-clause-counts : goal.header_len-requires-clause-counts
header_len-requires-clause-counts g c = active_slot_counts c.self.invariant.active_there c.self.invariant.store.has_image.active

pub unreachable-requires : goal.unreachable-requires
unreachable-requires g c =
    let has = c.self.invariant.store.has_image in
    c.in-None.ensures.none (length has.image) (active_slot_has_its_header c.self.invariant.active_there has.active)

pub returns-clause-image : goal.returns-clause-image
returns-clause-image g c = rw (← c.self.view_is)
    (active_header_fits c.self.invariant.active_there (image_at_kept_places_active c.self.invariant) c.in-Some.len c.in-Some.ensures.some)

pub returns-clause-active : goal.returns-clause-active
returns-clause-active g c = rw (← c.self.view_is) (image_at_kept_places_active c.self.invariant)
