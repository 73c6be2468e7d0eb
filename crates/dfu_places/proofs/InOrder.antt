-- Consecutive virtual bytes of a gate, header or data have consecutive addresses, in the same order.
use Rattle.std.proofs.Common.{◌≡◌, ℕ, ◌+◌, ◌-◌, ◌*◌, ◌≤◌, ◌<◌, nat_lt, Bool, true, false, Option, Some, None, refl, ◌∙◌, ap, arith, if◌then◌else◌}
use Rattle.dfu_places.specs.declared.placement.Placement.{Placement}
use Rattle.dfu_places.specs.Things.{span_at, bytes_at}
use Rattle.dfu_places.specs.Finding.{Spot, slot_len, spot_in, spot_of}
use Rattle.dfu_places.specs.Laws.{IsInOrder}
use Rattle.dfu_places.proofs.Spots.{found_address_is_computed}

-- Spot `i` bytes later in the same gate, header or data.
abbrev later : Spot → ℕ → Spot
later spot i = record { rank = spot.rank; offset = spot.offset + i }

-- Spot of byte `at` of a slot. The first test is true in the gate's sector, and the second before the data.
abbrev pick : ℕ → ℕ → ℕ → Bool → Bool → Spot
pick sector first at b c =
    if b then record { rank = first; offset = at }
    else if c then record { rank = first + 1; offset = at - sector } else record { rank = first + 2; offset = at - 2 * sector }

-- The byte `i` bytes later is in the same gate or header. For data there is no condition.
abbrev Stays : ℕ → ℕ → ℕ → ℕ → Bool → Bool → Type 0
Stays sector at i first true c = at + i < sector
Stays sector at i first false true = at + i < 2 * sector
Stays sector at i first false false = Unit {0}

pick_shifts : (sector first at i : ℕ) (b c d e : Bool) → nat_lt at sector ≡ b → nat_lt at (2 * sector) ≡ c → nat_lt (at + i) sector ≡ d →
    nat_lt (at + i) (2 * sector) ≡ e → Stays sector at i first b c → pick sector first (at + i) d e ≡ later (pick sector first at b c) i
pick_shifts sector first at i true c true e x y z w stays = refl
pick_shifts sector first at i true c false e x y z w stays = absurd (grind (arith, z, stays))
pick_shifts sector first at i false c true e x y z w stays = absurd (grind (arith, x, z))
pick_shifts sector first at i false true false true x y z w stays =
    ap (λ o. record { rank = first + 1; offset = o }) (grind (arith, x))
pick_shifts sector first at i false true false false x y z w stays = absurd (grind (arith, w, stays))
pick_shifts sector first at i false false false true x y z w stays = absurd (grind (arith, y, w))
pick_shifts sector first at i false false false false x y z w stays =
    ap (λ o. record { rank = first + 2; offset = o }) (grind (arith, y))

first_gate_fits_sector : (p : Placement) → bytes_at p 0 ≤ p.sector
unfolding bytes_at
first_gate_fits_sector p = omega arith

first_header_fits_sector : (p : Placement) → bytes_at p 1 ≤ p.sector
unfolding bytes_at
first_header_fits_sector p = omega arith

first_data_has_its_length : (p : Placement) → bytes_at p 2 ≡ p.first.data.len
unfolding bytes_at span_at
first_data_has_its_length p = refl

second_gate_fits_sector : (p : Placement) → bytes_at p 3 ≤ p.sector
unfolding bytes_at
second_gate_fits_sector p = omega arith

second_header_fits_sector : (p : Placement) → bytes_at p 4 ≤ p.sector
unfolding bytes_at
second_header_fits_sector p = omega arith

stays_in_first_slot : (p : Placement) (v i : ℕ) (b c : Bool) → nat_lt v p.sector ≡ b → nat_lt v (2 * p.sector) ≡ c → v < slot_len p →
    (pick p.sector 0 v b c).offset + i < bytes_at p (pick p.sector 0 v b c).rank → Stays p.sector v i 0 b c × (v + i < slot_len p)
stays_in_first_slot p v i true c x y lt few = (omega (arith, few, first_gate_fits_sector p), omega (arith, few, first_gate_fits_sector p))
stays_in_first_slot p v i false true x y lt few =
    (grind (arith, x, few, first_header_fits_sector p), grind (arith, x, few, first_header_fits_sector p))
stays_in_first_slot p v i false false x y lt few = (tt, grind (arith, y, few, first_data_has_its_length p))

stays_in_second_slot : (p : Placement) (w i : ℕ) (b c : Bool) → nat_lt w p.sector ≡ b → nat_lt w (2 * p.sector) ≡ c →
    (pick p.sector 3 w b c).offset + i < bytes_at p (pick p.sector 3 w b c).rank → Stays p.sector w i 3 b c
stays_in_second_slot p w i true c x y few = omega (arith, few, second_gate_fits_sector p)
stays_in_second_slot p w i false true x y few = grind (arith, x, few, second_header_fits_sector p)
stays_in_second_slot p w i false false x y few = tt

less_passes_test : (a b : ℕ) (d : Bool) → nat_lt a b ≡ d → a < b → d ≡ true
less_passes_test a b true x lt = refl
less_passes_test a b false x lt = absurd (grind (arith, x, lt))

not_less_fails_test : (a b : ℕ) (d : Bool) → nat_lt a b ≡ d → b ≤ a → d ≡ false
not_less_fails_test a b true x le = absurd (grind (arith, x, le))
not_less_fails_test a b false x le = refl

passed_test_is_less : (a b : ℕ) → nat_lt a b ≡ true → a < b
passed_test_is_less a b x = grind (arith, x)

failed_test_is_not_less : (a b : ℕ) → nat_lt a b ≡ false → b ≤ a
failed_test_is_not_less a b x = grind (arith, x)

true_chooses_first : (d : Bool) (x y z : Spot) → d ≡ true → x ≡ z → (if d then x else y) ≡ z
true_chooses_first true x y z is same = same
true_chooses_first false x y z is same = absurd (grind (arith, is))

false_chooses_second : (d : Bool) (x y z : Spot) → d ≡ false → y ≡ z → (if d then x else y) ≡ z
false_chooses_second true x y z is same = absurd (grind (arith, is))
false_chooses_second false x y z is same = same

module _ (p : Placement) (v i : ℕ) where
  later_spot_by_slot : (b : Bool) → nat_lt v (slot_len p) ≡ b →
      (if b then spot_in p.sector 0 v else spot_in p.sector 3 (v - slot_len p)).offset + i
      < bytes_at p (if b then spot_in p.sector 0 v else spot_in p.sector 3 (v - slot_len p)).rank →
      spot_of p (v + i) ≡ later (if b then spot_in p.sector 0 v else spot_in p.sector 3 (v - slot_len p)) i
  later_spot_by_slot true x few =
      let stays = stays_in_first_slot p v i (nat_lt v p.sector) (nat_lt v (2 * p.sector)) refl refl
      (passed_test_is_less v (slot_len p) x) few in
      true_chooses_first (nat_lt (v + i) (slot_len p)) (spot_in p.sector 0 (v + i)) (spot_in p.sector 3 ((v + i) - slot_len p))
      (later (spot_in p.sector 0 v) i) (less_passes_test (v + i) (slot_len p) (nat_lt (v + i) (slot_len p)) refl stays.1)
      (pick_shifts p.sector 0 v i (nat_lt v p.sector) (nat_lt v (2 * p.sector)) (nat_lt (v + i) p.sector) (nat_lt (v + i) (2 * p.sector))
      refl refl refl refl stays.0)
  later_spot_by_slot false x few =
      let w = v - slot_len p in
      let behind = failed_test_is_not_less v (slot_len p) x in
      let stays = stays_in_second_slot p w i (nat_lt w p.sector) (nat_lt w (2 * p.sector)) refl refl few in
      let same : (v + i) - slot_len p ≡ w + i = omega (arith, behind) in
      false_chooses_second (nat_lt (v + i) (slot_len p)) (spot_in p.sector 0 (v + i)) (spot_in p.sector 3 ((v + i) - slot_len p))
      (later (spot_in p.sector 3 w) i) (not_less_fails_test (v + i) (slot_len p) (nat_lt (v + i) (slot_len p)) refl (omega (arith, behind)))
      (ap (λ n. spot_in p.sector 3 n) same
      ∙ pick_shifts p.sector 3 w i (nat_lt w p.sector) (nat_lt w (2 * p.sector)) (nat_lt (w + i) p.sector) (nat_lt (w + i) (2 * p.sector))
      refl refl refl refl stays)

  later_spot_in_same_thing : (spot_of p v).offset + i < bytes_at p (spot_of p v).rank → spot_of p (v + i) ≡ later (spot_of p v) i
  later_spot_in_same_thing few = later_spot_by_slot (nat_lt v (slot_len p)) refl few

fitting_range_gives_address : (x y z b : ℕ) (d : Bool) → nat_lt x y ≡ d → y ≤ x → z ≡ b → (if d then None else Some z) ≡ Some b
fitting_range_gives_address x y z b true is le same = absurd (grind (arith, is, le))
fitting_range_gives_address x y z b false is le same = ap (λ n. Some n) same

abbrev address_of_spot : Placement → Spot → Option ℕ
address_of_spot p spot =
    if nat_lt (bytes_at p spot.rank) (spot.offset + 1) then None else Some ((span_at p spot.rank).at + spot.offset)

pub bytes_lie_in_order : IsInOrder
bytes_lie_in_order p v len i a is less =
    let spot = spot_of p v in
    let there = found_address_is_computed (bytes_at p spot.rank) (spot.offset + len) ((span_at p spot.rank).at + spot.offset) a
    (nat_lt (bytes_at p spot.rank) (spot.offset + len)) refl is in
    ap (λ s. address_of_spot p s) (later_spot_in_same_thing p v i (omega (arith, there.0, less)))
    ∙ fitting_range_gives_address (bytes_at p spot.rank) (spot.offset + i + 1) ((span_at p spot.rank).at + (spot.offset + i)) (a + i)
    (nat_lt (bytes_at p spot.rank) (spot.offset + i + 1)) refl (omega (arith, there.0, less)) (omega (arith, there.1))
