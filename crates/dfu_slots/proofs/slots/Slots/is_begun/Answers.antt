use Rattle.std.proofs.Common.{arith}
use Rattle.dfu_slots.specs.Image.{gate_of}
use Rattle.dfu_slots.proofs.Stands.{sized_medium_has_two_slots}
use Rattle.dfu_slots.proofs.Newest.{spare_place_ends_within}
use Rattle.dfu_slots.proofs.slots.Slots.is_begun.Goals as goal

pub is_open-requires : goal.is_open-requires
is_open-requires g c =
    let m = g.M.Medium.state c.self.inside.medium in
    let sized = sized_medium_has_two_slots m c.self.invariant.store.has_image.active.sized in
    omega (arith, c.self.invariant.spare_there, spare_place_ends_within (gate_of m) m.bytes sized, sized.room)
