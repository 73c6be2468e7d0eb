-- Lemmas about offsets and lengths that are multiples of a unit.
use Rattle.std.proofs.Common.{◌≡◌, ℕ, ◌+◌, ◌-◌, ◌*◌, ◌/◌, ◌%◌, ◌≤◌, ◌<◌, List, length, replicate, sym, ◌∙◌, ap, subst, arith, length-append}
use Rattle.std.proofs.lemmas.List.{length-replicate}
use Rattle.dfu_slots.specs.declared.layout.Unit.{Unit as WriteUnit}
use Rattle.dfu_slots.specs.declared.layout.Unit.TheVariants.{Byte}
use Rattle.dfu_slots.specs.Units.{IsWhole, unit_size, IsMultiple, whole_part, fill_size, filled_units, gate_room, Grain}
use Rattle.dfu_slots.specs.Medium.{MediumState}
use Rattle.dfu_slots.specs.Image.{gate_of, capacity_of, IsSizedMedium}
use Rattle.dfu_slots.specs.StoreView.{SlotsState, held_data_place, data_place}
use Rattle.dfu_slots.specs.Store.{HasPutBytes}
use Rattle.dfu_slots.proofs.Stands.{sized_medium_has_two_slots}
use Rattle.dfu_slots.proofs.Newest.{spare_place_ends_within}
use Rattle.dfu_slots.proofs.Series.{SameSize}

-- Lemmas about multiples of a unit, and their sums.

-- 0 is a multiple of every unit.
pub zero_is_multiple : (u : WriteUnit) → IsMultiple u 0
zero_is_multiple Byte = omega arith
zero_is_multiple _ = omega arith

-- The size of a full piece, 4096 bytes, is a multiple of every unit.
pub piece_size_is_multiple : (u : WriteUnit) → IsMultiple u 4096
piece_size_is_multiple Byte = omega arith
piece_size_is_multiple _ = omega arith

-- 256, the size of the largest unit, is a multiple of every unit.
pub largest_unit_is_multiple : (u : WriteUnit) → IsMultiple u 256
largest_unit_is_multiple Byte = omega arith
largest_unit_is_multiple _ = omega arith

-- The sum of two multiples of the unit is a multiple of the unit.
pub sum_is_multiple : (u : WriteUnit) (a b : ℕ) → IsMultiple u a → IsMultiple u b → IsMultiple u (a + b)
sum_is_multiple Byte a b x y = omega (arith, x, y)
sum_is_multiple _ a b x y = omega (arith, x, y)

-- Lemmas about remainders: the numbers of bytes that are left after the whole units of a length.

-- The remainder of a length is at most the length.
pub rest_at_most_length : (u : WriteUnit) (n : ℕ) → n % unit_size u ≤ n
rest_at_most_length Byte n = omega arith
rest_at_most_length _ n = omega arith

-- The number of bytes in whole units is a multiple of the unit.
pub whole_part_is_multiple : (u : WriteUnit) (n : ℕ) → IsMultiple u (whole_part u n)
whole_part_is_multiple Byte n = omega arith
whole_part_is_multiple _ n = omega arith

-- The remainder of the length 0 is 0.
pub zero_length_has_no_rest : (u : WriteUnit) → 0 % unit_size u ≡ 0
zero_length_has_no_rest u = zero_is_multiple u

-- If r is the remainder of n, then r + k and n + k have the same remainder.
pub rest_of_sum_by_rests : (u : WriteUnit) (n k : ℕ) → (n % unit_size u + k) % unit_size u ≡ (n + k) % unit_size u
rest_of_sum_by_rests Byte n k = omega arith
rest_of_sum_by_rests _ n k = omega arith

-- A multiple of the unit other than 0 is at least one unit.
pub multiple_has_a_unit : (u : WriteUnit) (w : ℕ) → IsMultiple u w → 0 < w → unit_size u ≤ w
multiple_has_a_unit Byte w x some = omega (arith, x, some)
multiple_has_a_unit _ w x some = omega (arith, x, some)

-- Lemmas about lengths that are filled up with zeros.

-- If n bytes from offset k end at or before c, and k and c are multiples of the unit, n bytes filled up to a unit end at or before c too.
fill_ends_within_multiple : (u : WriteUnit) (k n c : ℕ) → IsMultiple u k → IsMultiple u c → k + n ≤ c → k + (n + fill_size u n) ≤ c
fill_ends_within_multiple Byte k n c x y le = omega (arith, x, y, le)
fill_ends_within_multiple _ k n c x y le = omega (arith, x, y, le)

-- The length of filled bytes is the number of bytes plus the number of zeros.
pub filled_length_sums : (u : WriteUnit) (bytes : List ℕ) → length (filled_units u bytes) ≡ length bytes + fill_size u (length bytes)
filled_length_sums u bytes = length-append bytes (replicate (fill_size u (length bytes)) 0)
    ∙ ap (λ (n : ℕ). length bytes + n) (length-replicate {A = ℕ} (fill_size u (length bytes)) 0)

filled_units_end_within : (u : WriteUnit) (k c : ℕ) (bytes : List ℕ) → IsMultiple u k → IsMultiple u c → k + length bytes ≤ c
    → k + length (filled_units u bytes) ≤ c
filled_units_end_within u k c bytes x y le = omega (
  arith,
  filled_length_sums u bytes,
  fill_ends_within_multiple u k (length bytes) c x y
      le,
)

-- If at most c bytes are filled up to a unit, and c is a multiple of the unit, their number is still at most c.
pub filled_bytes_within : (u : WriteUnit) (c : ℕ) (bytes : List ℕ) → IsMultiple u c → length bytes ≤ c → length (filled_units u bytes) ≤ c
filled_bytes_within u c bytes whole le = omega
    (arith, filled_length_sums u bytes, fill_ends_within_multiple u 0 (length bytes) c (zero_is_multiple u) whole (omega (arith, le)))

-- Lemmas about media of the same size.

-- If the capacity of a medium is a whole number of units and sectors, so is that of every medium of the same size.
pub same_size_is_whole : {m n : MediumState} → SameSize m n → IsWhole m.grain (capacity_of m) → IsWhole n.grain (capacity_of n)
same_size_is_whole {m} {n} same whole = subst (λ (w : Grain). IsWhole w (length n.bytes / 2 - 2 * gate_room w)) (sym same.grain)
    (subst (λ (k : ℕ). IsWhole m.grain (k / 2 - 2 * gate_of m)) (sym same.size) whole)

-- If a medium consists of exactly two slots, so does every medium of the same size.
pub same_size_is_sized : {m n : MediumState} → SameSize m n → IsSizedMedium m → IsSizedMedium n
same_size_is_sized same sized = record {
  even = omega (arith, same.size, sized.even);
  room = omega (arith, same.size, ap gate_room same.grain, sized.room);
  bound = omega (arith, same.size, ap gate_room same.grain, sized.bound);
  whole = same_size_is_whole same sized.whole;
}

-- Lemmas about the bytes that a store holds back.

module _ (s : SlotsState) (puts : HasPutBytes s) where
  -- The held bytes end where the puts end.
  pub held_bytes_end_at_put_end : held_data_place s + length s.held ≡ s.put_end
  held_bytes_end_at_put_end = omega (arith, puts.part, rest_at_most_length s.medium.grain.unit s.put_end)

  held_place_is_multiple : IsMultiple s.medium.grain.unit (held_data_place s)
  held_place_is_multiple =
      subst (λ (n : ℕ). IsMultiple s.medium.grain.unit (s.put_end - n)) (sym puts.part) (whole_part_is_multiple s.medium.grain.unit
      s.put_end)

  -- The held bytes, filled up with zeros, end within the data of a slot.
  pub filled_held_fits_capacity : IsMultiple s.medium.grain.unit (capacity_of s.medium)
      → held_data_place s + length (filled_units s.medium.grain.unit s.held) ≤ capacity_of s.medium
  filled_held_fits_capacity whole = filled_units_end_within s.medium.grain.unit (held_data_place s) (capacity_of s.medium) s.held
      held_place_is_multiple whole
      (omega (arith, held_bytes_end_at_put_end, puts.fits))

  -- The held bytes, filled up with zeros, end within the medium.
  pub filled_held_fits_medium : IsSizedMedium s.medium → data_place s (held_data_place s) + length
      (filled_units s.medium.grain.unit s.held) ≤ length s.medium.bytes
  filled_held_fits_medium sized = omega (
    arith,
    filled_held_fits_capacity sized.whole.units,
    spare_place_ends_within (gate_of s.medium) s.medium.bytes (sized_medium_has_two_slots s.medium sized),
    sized.room,
  )
