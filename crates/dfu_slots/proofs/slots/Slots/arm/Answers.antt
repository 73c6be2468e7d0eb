use Rattle.std.proofs.Common.{take}
use Rattle.dfu_slots.specs.Medium.Fuse.{Armed}
use Rattle.dfu_slots.proofs.VisibleStores.{fuse_leaves_store}
use Rattle.dfu_slots.proofs.UnchangedSlots.{places_kept_with_other_fuse}
use Rattle.dfu_slots.proofs.slots.Slots.arm.Goals as goal

pub invariant_of-self : goal.invariant_of-self
invariant_of-self g c = places_kept_with_other_fuse c.self.invariant (g.M.Medium.state c.arm.new.self)
    (Armed c.args.writes (take 4096 c.args.tear.now) c.args.stop) c.arm.ensures

pub returns : goal.returns
returns g c = fuse_leaves_store c.self.view_is c.self.invariant.store (g.M.Medium.state c.arm.new.self)
    (Armed c.args.writes (take 4096 c.args.tear.now) c.args.stop) c.arm.ensures
