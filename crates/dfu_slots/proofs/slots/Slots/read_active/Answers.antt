use Rattle.std.proofs.Common.{◌+◌, length, ◌≤◌, ◌∙◌, subst, sym, arith}
use Rattle.dfu_slots.specs.StoreView.{SlotsState, image_of}
use Rattle.dfu_slots.proofs.Unique.{active_data_range_is_of_image, active_image_fits}
use Rattle.dfu_slots.proofs.UnchangedSlots.{image_at_kept_places_active}
use Rattle.dfu_slots.proofs.slots.Slots.read_active.Goals as goal

pub read_data-requires-clause-within : goal.read_data-requires-clause-within
read_data-requires-clause-within g c =
    let asked = subst (λ (z : SlotsState). c.args.at + length c.args.out.now ≤ length (image_of z)) (sym c.self.view_is) c.requires in
    omega (arith, asked, active_image_fits c.self.invariant.active_there (image_at_kept_places_active c.self.invariant))

pub returns-clause-bytes : goal.returns-clause-bytes
returns-clause-bytes g c =
    let asked = subst (λ (z : SlotsState). c.args.at + length c.args.out.now ≤ length (image_of z)) (sym c.self.view_is) c.requires in
    rw (← c.self.view_is) (c.read_data.ensures ∙ active_data_range_is_of_image c.self.invariant.active_there (image_at_kept_places_active
    c.self.invariant) c.args.at
    (c.args.at + length c.args.out.now) asked)

pub returns-clause-active : goal.returns-clause-active
returns-clause-active g c = rw (← c.self.view_is) (image_at_kept_places_active c.self.invariant)
