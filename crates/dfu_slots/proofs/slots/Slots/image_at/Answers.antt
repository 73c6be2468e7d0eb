use Rattle.std.proofs.Common.{◌≡◌, ℕ, ◌+◌, length, slice_range, subst, sym, arith}
use Rattle.dfu_slots.specs.StoreView.{SlotsState, store_of, image_of}
use Rattle.dfu_slots.proofs.Unique.{image_at_its_place_on_medium, image_end}
use Rattle.dfu_slots.proofs.UnchangedSlots.{image_at_kept_places_active}
use Rattle.dfu_slots.proofs.slots.Slots.image_at.Goals as goal

pub returns-clause-within : goal.returns-clause-within
returns-clause-within g c = rw (← c.self.view_is)
    (omega (arith, c.data_at.ensures, image_end c.self.invariant.active_there (image_at_kept_places_active c.self.invariant)))

pub returns-clause-bytes : goal.returns-clause-bytes
returns-clause-bytes g c =
    let s : SlotsState = store_of (g.M.Medium.state c.self.inside.medium) c.self.inside.puts.held.items c.self.inside.puts.end in
    rw (← c.self.view_is) (subst (λ (at : ℕ). slice_range s.medium.bytes at (at + length (image_of s)) ≡ image_of s) (sym c.data_at.ensures)
    (image_at_its_place_on_medium c.self.invariant.active_there (image_at_kept_places_active c.self.invariant)))
