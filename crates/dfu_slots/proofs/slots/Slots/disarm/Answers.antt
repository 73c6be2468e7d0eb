use Rattle.dfu_slots.specs.Medium.Fuse.{Whole}
use Rattle.dfu_slots.proofs.VisibleStores.{fuse_leaves_store}
use Rattle.dfu_slots.proofs.UnchangedSlots.{places_kept_with_other_fuse}
use Rattle.dfu_slots.proofs.slots.Slots.disarm.Goals as goal

pub invariant_of-self : goal.invariant_of-self
invariant_of-self g c = places_kept_with_other_fuse c.self.invariant (g.M.Medium.state c.disarm.new.self) Whole c.disarm.ensures

pub returns : goal.returns
returns g c = fuse_leaves_store c.self.view_is c.self.invariant.store (g.M.Medium.state c.disarm.new.self) Whole c.disarm.ensures
