-- Proofs that the operations of each sequence may be performed.
use Rattle.std.proofs.Common.{◌≡◌, ◌≢◌, ◌⊎◌, inl, inr, ◌==◌, Bool, true, false, if◌then◌else◌, ℕ, ◌+◌, ◌-◌, ◌≤◌, ◌<◌, min, List, [], ◌++◌, length, replicate, refl, sym, subst, arith, length-append}
use Rattle.std.proofs.lemmas.Bool.{cases_eq, eqb-true, cond-true, cond-false, ne_eqb, eq-eqb}
use Rattle.std.proofs.lemmas.List.{length-replicate}
use Rattle.dfu_slots.specs.declared.layout.Unit.{Unit as WriteUnit}
use Rattle.dfu_slots.specs.declared.layout.Unit.TheVariants.{Byte}
use Rattle.dfu_slots.specs.declared.operation.Op.{Op}
use Rattle.dfu_slots.specs.declared.operation.Op.TheVariants.{Erase, Program}
use Rattle.dfu_slots.specs.declared.operation.Source.{Source}
use Rattle.dfu_slots.specs.declared.operation.Source.TheVariants.{Joined, Held, Header, Closed}
use Rattle.dfu_slots.specs.declared.sequence.Sequence.TheVariants.{Close, Put, Commit}
use Rattle.dfu_slots.specs.Units.{Grain, unit_size, gate_size, IsMultiple, whole_part, fill_size, filled_units}
use Rattle.dfu_slots.specs.Medium.{MediumState, IsWritableAhead}
use Rattle.dfu_slots.specs.Layout.{slot_size}
use Rattle.dfu_slots.specs.Image.{gate_of, capacity_of, IsSizedMedium}
use Rattle.dfu_slots.specs.Operations.{source_content, range_of, held_from, operations}
use Rattle.dfu_slots.specs.inside.Carry.{MayWriteRange, MayCarryOp, MayCarryAll}
use Rattle.dfu_slots.proofs.Series.{SameSize, size_is_transitive}
use Rattle.dfu_slots.proofs.SizedOn.{write_some_keeps_size}
use Rattle.dfu_slots.proofs.Sectors.{IsSectorEdge, edge_sum_is_edge, gate_unit_at_most_256, gate_size_is_multiple, gate_room_ends_at_edge, gate_room_is_multiple}
use Rattle.dfu_slots.proofs.ErasesAhead.{edge_is_writable_ahead, some_bytes_leave_blank_ahead}
use Rattle.dfu_slots.proofs.Multiples.{zero_is_multiple, sum_is_multiple, whole_part_is_multiple, largest_unit_is_multiple, filled_length_sums, filled_bytes_within, same_size_is_sized}
use Rattle.dfu_slots.proofs.Ranges.{range_within_has_its_length}

-- A length that is filled up to a unit is a multiple of the unit.
pub filled_length_is_multiple : (u : WriteUnit) (n : ℕ) → IsMultiple u (n + fill_size u n)
filled_length_is_multiple Byte n = omega arith
filled_length_is_multiple _ n = omega arith

-- The length of the first write of a `put` is a multiple of the unit.
head_write_is_multiple : (u : WriteUnit) (n k : ℕ) → IsMultiple u k → IsMultiple u (if n == 0 then 0 else min (unit_size u) k)
head_write_is_multiple u n k whole = in_either_result (n == 0)
  where
    least : (v : WriteUnit) → IsMultiple v k → IsMultiple v (min (unit_size v) k)
    least Byte x = omega (arith, x)
    least _ x = omega (arith, x)

    in_either_result : (b : Bool) → IsMultiple u (if b then 0 else min (unit_size u) k)
    in_either_result true = zero_is_multiple u
    in_either_result false = least u whole

difference_is_multiple : (u : WriteUnit) (a b : ℕ) → IsMultiple u a → IsMultiple u b → IsMultiple u (a - b)
difference_is_multiple Byte a b x y = omega (arith, x, y)
difference_is_multiple _ a b x y = omega (arith, x, y)

-- If n bytes of a source end at most 256 bytes beyond the source's end, range_of returns exactly n bytes.
pub source_range_has_length_n : (source : Source) (held block header : List ℕ) (skip n : ℕ)
    → skip + n ≤ length (source_content source held block header) + 256 → length (range_of source held block header skip n) ≡ n
source_range_has_length_n source held block header skip n within =
    let all = source_content source held block header in
    range_within_has_its_length (all ++ replicate 256 0) skip n
    (omega (arith, within, length-append all (replicate 256 0), length-replicate {A = ℕ} 256 0))

-- A gate unit or a header unit may be written at a sector edge on a medium of the same size.
unit_may_be_written : {m now : MediumState} (at : ℕ) → SameSize m now → IsSizedMedium m → IsSectorEdge m.grain.sector at
    → at + gate_size m.grain.unit ≤ length m.bytes → IsMultiple m.grain.unit at → MayWriteRange now at (gate_size m.grain.unit)
unit_may_be_written {m} {now} at same sized edge within place = record {
  sized = same_size_is_sized same sized;
  ahead = edge_is_writable_ahead now at (subst (λ (w : Grain). IsSectorEdge w.sector at) (sym same.grain) edge);
  within = omega (arith, within, same.size);
  place = subst (λ (w : Grain). IsMultiple w.unit at) (sym same.grain) place;
  whole = subst (λ (w : Grain). IsMultiple w.unit (gate_size m.grain.unit)) (sym same.grain) (gate_size_is_multiple m.grain.unit);
}

size_is_reflexive : {m : MediumState} → SameSize m m
size_is_reflexive = record { grain = refl; size = refl }

-- The operation that closes the gate of a slot may be performed.
pub may_carry_close : (m : MediumState) (slot : ℕ) (held block header : List ℕ) → IsSizedMedium m → slot + gate_of m ≤ length m.bytes
    → IsMultiple m.grain.unit slot → IsSectorEdge m.grain.sector slot
    → MayCarryAll m held block header (operations m.grain (Close slot))
may_carry_close m slot held block header sized within place edge = (with_or_without_sectors (cases_eq m.grain.sector 0), λ now all. tt)
  where
    with_or_without_sectors : (m.grain.sector ≡ 0) ⊎ (m.grain.sector ≢ 0)
        → MayCarryOp m held block (if m.grain.sector == 0 then Program slot Closed 0 (gate_size m.grain.unit) else Erase slot)
    with_or_without_sectors (inl none) =
        subst (λ (o : Op). MayCarryOp m held block o) (sym (cond-true (m.grain.sector == 0) _ (Erase slot) (eq-eqb _ _ none)))
        (unit_may_be_written slot size_is_reflexive sized edge (omega (arith, within)) place, (refl, gate_unit_at_most_256 m.grain.unit))
    with_or_without_sectors (inr some) =
        subst (λ (o : Op). MayCarryOp m held block o)
        (sym (cond-false (m.grain.sector == 0) (Program slot Closed 0 (gate_size m.grain.unit)) (Erase slot) (ne_eqb _ _ some)))
        (omega (arith, within), edge (omega (arith, some)))

-- The operations that write the held bytes and open the slot may be performed.
module _ (m : MediumState) (slot end : ℕ) (held header : List ℕ) (sized : IsSizedMedium m)
    (room : slot + slot_size m.bytes ≤ length m.bytes)
    (place : IsMultiple m.grain.unit slot) (edge : IsSectorEdge m.grain.sector slot) (few : length held ≤ 256) where
  abbrev u : WriteUnit
  u = m.grain.unit

  abbrev g : ℕ
  g = gate_size u

  abbrev at : ℕ
  at = held_from m.grain slot end (length held)

  abbrev n : ℕ
  n = length held + fill_size u (length held)

  held_at_most_256 : n ≤ 256
  held_at_most_256 = omega (arith, filled_bytes_within u 256 held (largest_unit_is_multiple u) few, filled_length_sums u held)

  header_place_is_multiple : IsMultiple u (slot + gate_of m)
  header_place_is_multiple = sum_is_multiple u slot (gate_of m) place (gate_room_is_multiple m.grain (capacity_of m) sized.whole)

  header_place_is_edge : IsSectorEdge m.grain.sector (slot + gate_of m)
  header_place_is_edge = edge_sum_is_edge m.grain.sector slot (gate_of m) edge (gate_room_ends_at_edge m.grain (capacity_of m) sized.whole)

  pub may_carry_commit : IsWritableAhead m at → at + length (filled_units u held) ≤ length m.bytes → IsMultiple u at
      → MayCarryAll m held [] header (operations m.grain (Commit slot end (length held)))
  may_carry_commit ahead within whole =
      let fits : at + n ≤ length m.bytes = omega (arith, within, filled_length_sums u held) in (
        (
          record { sized = sized; ahead = ahead; within = fits; place = whole; whole = filled_length_is_multiple u (length held) },
          (
            refl,
            held_at_most_256,
          ),
        ),
        λ a first.
            let size = source_range_has_length_n Held held [] header 0 n (omega (arith, held_at_most_256)) in
            let one = write_some_keeps_size m a at (range_of Held held [] header 0 n) sized (omega (arith, size, fits)) first in (
              (
                unit_may_be_written (slot + gate_of m) one sized header_place_is_edge (omega (arith, room, sized.room))
                    header_place_is_multiple,
                (refl, gate_unit_at_most_256 u),
              ),
              λ b second.
                  let long = source_range_has_length_n Header held [] header 0 g (omega (arith, gate_unit_at_most_256 u)) in
                  let two = write_some_keeps_size a b (slot + gate_of m) (range_of Header held [] header 0 g) (same_size_is_sized one sized)
                  (omega (arith, long, room, sized.room, one.size)) second in (
                    (
                      unit_may_be_written slot (size_is_transitive one two) sized edge (omega (arith, room, sized.room)) place,
                      (
                        refl,
                        gate_unit_at_most_256 u,
                      ),
                    ),
                    λ c third. tt,
                  ),
            ),
      )

-- The operations that put a block after the held bytes may be performed.
module _ (m : MediumState) (slot end : ℕ) (held block header : List ℕ) (sized : IsSizedMedium m) where
  abbrev v : WriteUnit
  v = m.grain.unit

  abbrev from : ℕ
  from = held_from m.grain slot end (length held)

  abbrev count : ℕ
  count = whole_part v (length held + length block)

  abbrev head : ℕ
  head = if length held == 0 then 0 else min (unit_size v) count

  module _ (part : length held < unit_size v) where
    head_write_bounds : (head ≤ count) × (head ≤ 256) × (head < length held → count ≡ head)
    head_write_bounds = in_either_result (length held == 0) refl
      where
        in_either_result : (b : Bool) → (length held == 0) ≡ b → ((if b then 0 else min (unit_size v) count) ≤ count)
            × ((if b then 0 else min (unit_size v) count) ≤ 256)
            × ((if b then 0 else min (unit_size v) count) < length held → count ≡ (if b then 0 else min (unit_size v) count))
        in_either_result true is = (omega arith, omega arith, λ lt. omega (arith, lt, eqb-true _ _ is))
        in_either_result false is = (omega arith, omega (arith, gate_unit_at_most_256 v), λ lt. omega (arith, lt, part))

    pub may_carry_put : IsWritableAhead m from → from + (length held + length block) ≤ length m.bytes → IsMultiple v from
        → MayCarryAll m held block header (operations m.grain (Put slot end (length held) (length block)))
    may_carry_put ahead within whole =
        let parts = whole_part_is_multiple v (length held + length block) in
        let first = head_write_is_multiple v (length held) count parts in
        let few : count ≤ length held + length block = omega arith in (
          (
            record { sized = sized; ahead = ahead; within = omega (arith, within, head_write_bounds.0, few); place = whole; whole = first },
            (λ none. omega (arith, none, head_write_bounds.0, few), λ some. head_write_bounds.1),
          ),
          λ a all.
              let size = source_range_has_length_n Joined held block header 0 head (omega (arith, head_write_bounds.1)) in
              let bytes = range_of Joined held block header 0 head in
              let fits : from + length bytes ≤ length m.bytes = omega (arith, size, within, head_write_bounds.0, few) in
              let same = write_some_keeps_size m a from bytes sized fits all in (
                (
                  record {
                    sized = same_size_is_sized same sized;
                    ahead = subst (λ (k : ℕ). IsWritableAhead a (from + k)) size (some_bytes_leave_blank_ahead m a from bytes sized fits all
                        ahead);
                    within = omega (arith, within, head_write_bounds.0, few, same.size);
                    place = subst (λ (w : Grain). IsMultiple w.unit (from + head)) (sym same.grain) (sum_is_multiple v from head whole
                        first);
                    whole = subst (λ (w : Grain). IsMultiple w.unit (count - head)) (sym same.grain) (difference_is_multiple v count head
                        parts first);
                  },
                  (λ low. omega (arith, low, head_write_bounds.0, few), λ some. omega (arith, head_write_bounds.2 some)),
                ),
                λ b second. tt,
              ),
        )
