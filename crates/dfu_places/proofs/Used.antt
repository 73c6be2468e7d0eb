-- Each virtual byte that the store uses is on the part.
use Rattle.std.proofs.Common.{◌≡◌, ℕ, ◌+◌, ◌≤◌, ◌==◌, ◌||◌, nat_lt, min, Bool, true, false, IsSome, Some, None, List, refl, arith, if◌then◌else◌}
use Rattle.dfu_places.specs.declared.region.Region.{Region}
use Rattle.dfu_places.specs.declared.placement.Placement.{Placement}
use Rattle.dfu_places.specs.declared.placement.Needs.{Needs}
use Rattle.dfu_places.specs.Things.{span_at, bytes_at, room_at, thing_used_bytes}
use Rattle.dfu_places.specs.Placement.{IsPlacement}
use Rattle.dfu_places.specs.Finding.{spot_of}
use Rattle.dfu_places.specs.Laws.{UsedBytesAreFound}
use Rattle.dfu_places.proofs.Spots.{spot_of_gives_byte_back}
use Rattle.dfu_places.proofs.Places.{slot_rank_is_thing}

fitting_range_is_found : (x y z : ℕ) (b : Bool) → nat_lt x y ≡ b → y ≤ x → IsSome (if b then None else Some z)
fitting_range_is_found x y z true e le = absurd (grind (arith, e, le))
fitting_range_is_found x y z false e le = refl

-- If at least `room` bytes are mapped, at least as many bytes are mapped as the store uses.
chosen : (b : Bool) (room len some : ℕ) → room ≤ (if b then len else some) → (if b then len else room) ≤ (if b then len else some)
chosen true room len some le = omega arith
chosen false room len some le = le

used_bytes_are_virtual : (regions : List Region) (needs : Needs) (p : Placement) → IsPlacement regions needs p → (i : ℕ) → i ≤ 5 →
    thing_used_bytes needs p i ≤ bytes_at p i
unfolding bytes_at
used_bytes_are_virtual regions needs p is i few =
    chosen (i == 2 || i == 5) (room_at needs i) (span_at p i).len (min (span_at p i).len p.sector) (is.roomy i (slot_rank_is_thing p i few))

pub used_bytes_are_found : UsedBytesAreFound
used_bytes_are_found regions needs p v len is within =
    let spot = spot_of p v in
    let known = spot_of_gives_byte_back p v in
    fitting_range_is_found (bytes_at p spot.rank) (spot.offset + len) ((span_at p spot.rank).at + spot.offset)
    (nat_lt (bytes_at p spot.rank) (spot.offset + len)) refl
    (omega (arith, within, used_bytes_are_virtual regions needs p is spot.rank known.rank))
