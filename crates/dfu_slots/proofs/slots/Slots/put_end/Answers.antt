use Rattle.dfu_slots.proofs.VisibleStores.{put_end_within_room}
use Rattle.dfu_slots.proofs.slots.Slots.put_end.Goals as goal

pub returns-clause-room : goal.returns-clause-room
returns-clause-room g c = rw (← c.self.view_is) (put_end_within_room c.self.invariant.store)
