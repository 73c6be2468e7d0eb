use Rattle.dfu_slots.proofs.VisibleStores.{seen_image_is_active, image_is}
use Rattle.dfu_sim.specs.Understood.{BenchImageIsActive}
use Rattle.dfu_sim.proofs.EventFacts.{world_event_is_steady, machines_follow_world_event, each_event_is_sure, event_gives_bytes}
use Rattle.dfu_sim.proofs.HeadlineKept.{step_keeps_headline}
use Rattle.dfu_sim.proofs.world.World.step.Goals as goal

-- The image that a bench shows is the only active one of its medium's bytes.
shown : BenchImageIsActive
shown b = (seen_image_is_active b.device.slots, image_is b.device.slots)

pub invariant_of-self : goal.invariant_of-self
invariant_of-self g c = record {
  steady = world_event_is_steady c.self.invariant.steady c.apply_event-told.ensures;
  active = rw c.slots.ensures.slots at c.capacity.ensures.image;
}

pub returns-clause-legal : goal.returns-clause-legal
returns-clause-legal g c = rw (← c.self.view_is) (machines_follow_world_event shown c.self.invariant.steady (rw c.slots.ensures.slots at
    c.capacity.ensures.image)
    c.apply_event-told.ensures)

pub returns-clause-sure : goal.returns-clause-sure
returns-clause-sure g c = rw (← c.self.view_is) (each_event_is_sure c.apply_event-told.ensures)

pub returns-clause-gives : goal.returns-clause-gives
returns-clause-gives g c = rw (← c.self.view_is) (event_gives_bytes c.self.invariant.steady c.apply_event-told.ensures)

pub returns-clause-headline : goal.returns-clause-headline
returns-clause-headline g c = rw (← c.self.view_is) (step_keeps_headline _ _ _ _ (machines_follow_world_event shown c.self.invariant.steady
    (rw c.slots.ensures.slots at c.capacity.ensures.image) c.apply_event-told.ensures))
