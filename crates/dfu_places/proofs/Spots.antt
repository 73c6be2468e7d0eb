-- Each virtual byte can be computed from its spot.
use Rattle.std.proofs.Common.{◌≡◌, ℕ, ◌+◌, ◌-◌, ◌*◌, ◌≤◌, nat_lt, ◌==◌, Bool, true, false, Some, None, refl, arith, if◌then◌else◌}
use Rattle.dfu_places.specs.declared.placement.Placement.{Placement}
use Rattle.dfu_places.specs.Finding.{Spot, slot_len, spot_in, spot_of}

-- First virtual byte of the gate, header or data of rank `i`.
abbrev pub start_of : Placement → ℕ → ℕ
start_of p i =
    if i == 0 then 0
    else if i == 1 then p.sector
    else if i == 2 then 2 * p.sector
    else if i == 3 then slot_len p
    else if i == 4 then slot_len p + p.sector
    else slot_len p + 2 * p.sector

-- Virtual byte `v` is the sum of the spot's offset and the first virtual byte of its gate, header or data. The rank of the spot is at most
-- 5.
pub record IsSpotOf (p : Placement) (v : ℕ) (spot : Spot) : Type 0 where
  pub rank : spot.rank ≤ 5
  pub back : v ≡ start_of p spot.rank + spot.offset

first_slot_spot_gives_byte : (p : Placement) (v : ℕ) (b c : Bool) → nat_lt v p.sector ≡ b → nat_lt v (2 * p.sector) ≡ c →
    IsSpotOf p v (if b then record { rank = 0; offset = v }
    else if c then record { rank = 1; offset = v - p.sector } else record { rank = 2; offset = v - 2 * p.sector })
first_slot_spot_gives_byte p v true c x y = record { rank = omega arith; back = omega arith }
first_slot_spot_gives_byte p v false true x y = record { rank = omega arith; back = grind (arith, x) }
first_slot_spot_gives_byte p v false false x y = record { rank = omega arith; back = grind (arith, x, y) }

second_slot_gives_byte : (p : Placement) (v w : ℕ) (b c : Bool) → v ≡ slot_len p + w → nat_lt w p.sector ≡ b → nat_lt w (2 * p.sector) ≡ c →
    IsSpotOf p v (if b then record { rank = 3; offset = w }
    else if c then record { rank = 4; offset = w - p.sector } else record { rank = 5; offset = w - 2 * p.sector })
second_slot_gives_byte p v w true c e x y = record { rank = omega arith; back = e }
second_slot_gives_byte p v w false true e x y = record { rank = omega arith; back = grind (arith, e, x) }
second_slot_gives_byte p v w false false e x y = record { rank = omega arith; back = grind (arith, e, x, y) }

chosen_spot_gives_byte : (p : Placement) (v : ℕ) (b : Bool) → nat_lt v (slot_len p) ≡ b →
    IsSpotOf p v (if b then spot_in p.sector 0 v else spot_in p.sector 3 (v - slot_len p))
chosen_spot_gives_byte p v true x = first_slot_spot_gives_byte p v (nat_lt v p.sector) (nat_lt v (2 * p.sector)) refl refl
chosen_spot_gives_byte p v false x =
    let w = v - slot_len p in
    second_slot_gives_byte p v w (nat_lt w p.sector) (nat_lt w (2 * p.sector)) (grind (arith, x)) refl refl

pub spot_of_gives_byte_back : (p : Placement) (v : ℕ) → IsSpotOf p v (spot_of p v)
spot_of_gives_byte_back p v = chosen_spot_gives_byte p v (nat_lt v (slot_len p)) refl

-- If `found` returns an address, the range ends within its gate, header or data, and the address is the computed one.
pub found_address_is_computed : (x y z a : ℕ) (b : Bool) → nat_lt x y ≡ b → (if b then None else Some z) ≡ Some a → (y ≤ x) × (z ≡ a)
found_address_is_computed x y z a true e is = (grind (arith, is), grind (arith, is))
found_address_is_computed x y z a false e is = (grind (arith, e), grind (arith, is))
